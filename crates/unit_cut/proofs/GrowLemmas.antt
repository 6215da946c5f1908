-- The begin of an interval is placed once: what is cut out of a front of a run is cut out of the run.
use Rattle.std.specs.Prelude.{ℤ, All}
use Rattle.std.proofs.Common.{◌≡◌, ℕ, List, [], ◌∷◌, ◌++◌, refl, sym, ap, ◌∙◌, Option, None, Some, reverse}
use Rattle.std.proofs.lemmas.List.Elements.{All-head, All-tail, All-cons, All-nil}
use Rattle.ts_packet.specs.Runs.{Seen, seen_after}
use Rattle.ts_packet.proofs.Cases.{by_test}
use Rattle.ts_packet.proofs.RunLemmas.{onto, onto-append}
use Rattle.unit_stream.specs.Times.{begins, begins_one, first_time, first_after, unit_time, stamp}
use Rattle.std.proofs.Math.Bool.{or-false}
use Rattle.unit_cut.specs.Cutting.{cut, cut_between, inside, begin_of}
use Rattle.unit_cut.proofs.InOrder.{cut_grows, cut-same}

-- ---- no unit was timed

none_after : (f : Option ℤ) (s : Option ℕ) → first_after f s ≡ None → (f ≡ None) × (s ≡ None)
none_after None None e = (refl, refl)
none_after None (Some t) e = absurd (cc)
none_after (Some f) s e = absurd (cc)

none_before_one : (sw : List ℕ) (p : List ℕ) (past : List (List ℕ)) → first_time sw (p ∷ past) ≡ None → first_time sw past ≡ None
none_before_one sw p past e =
    by_test (begins_one sw p past)
    (λ b. let f : first_after (first_time sw past) (stamp p) ≡ None = simp b at e in (none_after (first_time sw past) (stamp p) f).0)
    (λ b. simp b at e)

none_before : (sw : List ℕ) (past ps : List (List ℕ)) → first_time sw (onto past ps) ≡ None → first_time sw past ≡ None
none_before sw past [] e = e
none_before sw past (p ∷ ps) e = none_before_one sw p past (none_before sw (p ∷ past) ps e)

untimed_more : (pid : ℕ) (p : List ℕ) (past : List (List ℕ)) → (first_time (pid ∷ []) past ≡ None → unit_time (pid ∷ []) pid past ≡ None)
    → first_time (pid ∷ []) (p ∷ past) ≡ None → unit_time (pid ∷ []) pid (p ∷ past) ≡ None
untimed_more pid p past i e =
    by_test (begins pid p past)
    (λ b.
    let f : first_after (first_time (pid ∷ []) past) (stamp p) ≡ None = simp (or-false, b) at e in
    let (none, plain) = none_after (first_time (pid ∷ []) past) (stamp p) f in
    simp (b, plain) (i none))
    (λ b. let f : first_time (pid ∷ []) past ≡ None = simp (or-false, b) at e in simp b (i f))

untimed : (pid : ℕ) (past : List (List ℕ)) → first_time (pid ∷ []) past ≡ None → unit_time (pid ∷ []) pid past ≡ None
untimed pid [] e = refl
untimed pid (p ∷ past) e = untimed_more pid p past (untimed pid past) e

all_untimed : (pid : ℕ) (past ps : List (List ℕ)) → first_time (pid ∷ []) (onto past ps) ≡ None
    → All (λ (s : Seen). unit_time (pid ∷ []) pid (s.packet ∷ s.past) ≡ None) (seen_after past ps)
all_untimed pid past [] e = All-nil (λ (s : Seen). unit_time (pid ∷ []) pid (s.packet ∷ s.past) ≡ None)
all_untimed pid past (p ∷ ps) e =
    All-cons (λ (s : Seen). unit_time (pid ∷ []) pid (s.packet ∷ s.past) ≡ None) (record { packet = p; past = past }) (seen_after (p ∷ past) ps)
    (untimed pid (p ∷ past) (none_before (pid ∷ []) (p ∷ past) ps e)) (all_untimed pid (p ∷ past) ps e)

all_agree : (pid len : ℕ) (b b' : ℤ) (ss : List Seen) → All (λ (s : Seen). unit_time (pid ∷ []) pid (s.packet ∷ s.past) ≡ None) ss
    → All (λ (s : Seen). inside b len (unit_time (pid ∷ []) pid (s.packet ∷ s.past)) ≡ inside b' len (unit_time (pid ∷ []) pid (s.packet ∷ s.past))) ss
all_agree pid len b b' [] h = All-nil (λ (s : Seen). inside b len (unit_time (pid ∷ []) pid (s.packet ∷ s.past)) ≡ inside b' len (unit_time (pid ∷ []) pid (s.packet ∷ s.past)))
all_agree pid len b b' (s ∷ ss) h =
    let t = All-head (λ (s : Seen). unit_time (pid ∷ []) pid (s.packet ∷ s.past) ≡ None) s ss h in
    All-cons (λ (s : Seen). inside b len (unit_time (pid ∷ []) pid (s.packet ∷ s.past)) ≡ inside b' len (unit_time (pid ∷ []) pid (s.packet ∷ s.past))) s ss
    (ap (inside b len) t ∙ sym (ap (inside b' len) t))
    (all_agree pid len b b' ss (All-tail (λ (s : Seen). unit_time (pid ∷ []) pid (s.packet ∷ s.past) ≡ None) s ss h))

-- ---- the first timed unit stays the first

stays_one : (sw : List ℕ) (f : ℤ) (p : List ℕ) (past : List (List ℕ)) → first_time sw past ≡ Some f → first_time sw (p ∷ past) ≡ Some f
stays_one sw f p past e =
    by_test (begins_one sw p past)
    (λ b. simp (b, e))
    (λ b. simp b e)

stays_first : (sw : List ℕ) (f : ℤ) (past ps : List (List ℕ)) → first_time sw past ≡ Some f → first_time sw (onto past ps) ≡ Some f
stays_first sw f past [] e = e
stays_first sw f past (p ∷ ps) e = stays_first sw f (p ∷ past) ps (stays_one sw f p past e)

-- the same cut of a front, by the begin that the front places, or by that of the whole
pub same_front : (from len pid : ℕ) (ps qs : List (List ℕ)) (first : Option ℤ) → first_time (pid ∷ []) (reverse ps) ≡ first
    → cut (inside (begin_of from (first_time (pid ∷ []) (reverse (ps ++ qs)))) len) (pid ∷ []) pid ps ≡ cut (inside (begin_of from first) len) (pid ∷ []) pid ps
same_front from len pid ps qs None e =
    cut-same (inside (begin_of from (first_time (pid ∷ []) (reverse (ps ++ qs)))) len) (inside (begin_of from None) len) (pid ∷ []) pid ps
    (all_agree pid len (begin_of from (first_time (pid ∷ []) (reverse (ps ++ qs)))) (begin_of from None) (seen_after [] ps) (all_untimed pid [] ps e))
same_front from len pid ps qs (Some f) e =
    let g : first_time (pid ∷ []) (reverse (ps ++ qs)) ≡ Some f = ap (first_time (pid ∷ [])) (onto-append [] ps qs) ∙ stays_first (pid ∷ []) f (reverse ps) qs e in
    ap (λ o. cut (inside (begin_of from o) len) (pid ∷ []) pid ps) g

pub between_grows : (from len pid : ℕ) (ps qs : List (List ℕ)) → (more : List (List ℕ)) × (cut_between from len pid (ps ++ qs) ≡ cut_between from len pid ps ++ more)
between_grows from len pid ps qs =
    let (more, e) = cut_grows (inside (begin_of from (first_time (pid ∷ []) (reverse (ps ++ qs)))) len) (pid ∷ []) pid ps qs in
    (more, e ∙ ap (λ l. l ++ more) (same_front from len pid ps qs (first_time (pid ∷ []) (reverse ps)) refl))
