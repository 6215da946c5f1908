-- A stream that loses nothing keeps enough; and a time that is reached is held by the same events on and_parts sides.
use Rattle.std.proofs.Common.{◌≡◌, ◌↔◌, ℕ, Bool, true, false, not, ◌⊎◌, inl, inr, refl, sym, ap, ◌∙◌, subst, List, [], ◌∷◌, Option, None, Some, arith}
use Rattle.std.specs.Prelude.{ℤ, ◌<ℤ◌, ◌≤ℤ◌, int_le, int_lt, filter, map}
use Rattle.std.proofs.lemmas.Int.{ints}
use Rattle.std.proofs.lemmas.Bool.{and_parts, not-true}
use Rattle.ts_packet.proofs.Cases.{by_test}
use Rattle.pes_time.proofs.IntLemmas.{lt-test}
use Rattle.ts_packet.specs.Membership.{In}
use Rattle.ts_packet.proofs.MembershipLemmas.{In-mapped, In-filter, In-filtered}
use Rattle.cue_laws.specs.Events.{Turn, LineEvent, Name, Started, Cancelled, Ended, Passed, high, before, events, can_start, fresh, can_cancel, cancel_by, end_by, covers, name_of}
use Rattle.cue_laws.specs.Thinning.{MayAllCome, thinned, KeepsStart, KeepsCancel, KeepsEnds}
use Rattle.cue_laws.specs.Cueing.{IsRun, cue_turns}
use Rattle.cue_laws.specs.Laws.{CuePathHolders, NothingLostIsEnough, Invariant, NoStartRefused, CuedIsSound}
use Rattle.cue_laws.proofs.Lists.{Distinct, distinct-filter, has_start}
use Rattle.cue_laws.proofs.Orders.{Orderly, is_of-parts}
use Rattle.cue_laws.proofs.Below.{Below, or-split}
use Rattle.cue_laws.proofs.Thin.{below}
use Rattle.cue_laws.proofs.Lost.{origin, kept_armed, ends_front}
use Rattle.cue_laws.proofs.Fair.{stand}
use Rattle.cue_laws.proofs.Path.{cue_path, cued_goes, known_of, nothing_lost, front_whole, run_front}

-- one of each
abbrev ones : List Turn → ℕ
ones s = 1

thinned-ones : (all : List Turn) → thinned ones all ≡ all
thinned-ones [] = refl
thinned-ones (Started id start end ∷ past) = ap (λ l. Started id start end ∷ l) (thinned-ones past)
thinned-ones (Cancelled id ∷ past) = ap (λ l. Cancelled id ∷ l) (thinned-ones past)
thinned-ones (Ended id time ∷ past) = ap (λ l. Ended id time ∷ l) (thinned-ones past)
thinned-ones (Passed h ∷ past) = ap (λ l. Passed h ∷ l) (thinned-ones past)

ends-ones : (all : List Turn) → KeepsEnds ones all
ends-ones [] = tt
ends-ones (Started id start end ∷ past) = ends-ones past
ends-ones (Cancelled id ∷ past) = ends-ones past
ends-ones (Ended id time ∷ past) = (inl (omega arith), ends-ones past)
ends-ones (Passed h ∷ past) = ends-ones past

keeps_named : (copies : List Turn → ℕ) (x y : LineEvent) → name_of x ≡ name_of y → (all : List Turn) → KeepsCancel copies x all → KeepsCancel copies y all
keeps_named copies x y name [] k = k
keeps_named copies x y name (Started id start end ∷ past) k = keeps_named copies x y name past k
keeps_named copies x y name (Cancelled id ∷ past) (inl k) =
    inl (k.0, k.1 ∙ ap (λ (z : Name). z.id) name, ap (before (high past)) (sym (ap (λ (z : Name). z.start) name)) ∙ k.2, (k.3.0, k.3.1, k.3.2 ∙ name))
keeps_named copies x y name (Cancelled id ∷ past) (inr k) = inr (keeps_named copies x y name past k)
keeps_named copies x y name (Ended id time ∷ past) k = keeps_named copies x y name past k
keeps_named copies x y name (Passed h ∷ past) k = keeps_named copies x y name past k

-- an event is cancelled by a cancel
cancel_origin : (all : List Turn) (x : LineEvent) → In x (events all) → x.cancelled ≡ true → KeepsCancel ones x all
cancel_origin [] x i c = absurd i
cancel_origin (Started id start end ∷ past) x i c =
    by_test (can_start (high past) id start end (events past))
    (λ can. first (simp can at i) (λ j. cancel_origin past x j c))
    (λ can. let j = simp can at i in cancel_origin past x j c)
  where
    first : In x (fresh id start end ∷ events past) → (In x (events past) → KeepsCancel ones x past) → KeepsCancel ones x past
    first (inl is) later = absurd (let f : x.cancelled ≡ false = ap (λ (z : LineEvent). z.cancelled) is in let bad : true ≡ false = sym c ∙ f in cc)
    first (inr j) later = later j
cancel_origin (Cancelled id ∷ past) x i c =
    let r = In-mapped (cancel_by (high past) id) x (events past) i in
    let old : name_of r.0 ≡ name_of x = sym (ap name_of r.2) in
    which r.0 r.1 old (or-split r.0.cancelled (can_cancel (high past) id r.0) (sym (ap (λ (z : LineEvent). z.cancelled) r.2) ∙ c)) (λ d. cancel_origin past r.0 r.1 d)
  where
    which : (e : LineEvent) → In e (events past) → name_of e ≡ name_of x → (e.cancelled ≡ true) ⊎ (can_cancel (high past) id e ≡ true) → (e.cancelled ≡ true → KeepsCancel ones e past)
        → KeepsCancel ones x (Cancelled id ∷ past)
    which e j name (inl d) later = inr (keeps_named ones e x name past (later d))
    which e j name (inr d) later =
        let p = and_parts (is_of_it e) (before (high past) e.start) d in
        inl (omega arith, sym (is_of-parts (high past) id e p.0).1 ∙ ap (λ (z : Name). z.id) name, ap (before (high past)) (sym (ap (λ (z : Name). z.start) name)) ∙ p.1, (e, j, name))
      where
        is_of_it : LineEvent → Bool
        is_of_it e = Rattle.cue_laws.specs.Events.is_of (high past) id e
cancel_origin (Ended id time ∷ past) x i c =
    let r = In-mapped (end_by (high past) id time) x (events past) i in
    keeps_named ones r.0 x (sym (ap name_of r.2)) past (cancel_origin past r.0 r.1 (sym (ap (λ (z : LineEvent). z.cancelled) r.2) ∙ c))
cancel_origin (Passed h ∷ past) x i c = cancel_origin past x i c

pub nothing_lost_is_enough : NothingLostIsEnough
nothing_lost_is_enough h past r = record {
  starts = λ x i c. subst (λ l. In (Started x.id x.start x.asked) l) (sym (thinned-ones all)) (origin all x ((nothing_lost h past r x c).1 i));
  cancels = λ x i c. which x i c (has_start x.start (events all));
  ends = ends-ones all;
}
  where
    all : List Turn
    all = cue_turns (Passed h ∷ past)

    sound : MayAllCome all
    sound = (cued_goes (Passed h ∷ past) r).sound

    which : (x : LineEvent) → In x (events (Passed h ∷ past)) → x.cancelled ≡ true → ((e : LineEvent) × In e (events all) × (e.start ≡ x.start)) ⊎ ((e : LineEvent) → In e (events all) → e.start ≡ x.start → ⊥)
        → KeepsCancel ones x all ⊎ (KeepsStart ones x all → ⊥)
    which x i c (inl e) =
        let same : e.0 ≡ x = (stand (Passed h ∷ past) r).order.same e.0 x (known_of h past r e.0 e.1) i e.2 in
        inl (cancel_origin all x (subst (λ z. In z (events all)) same e.1) c)
    which x i c (inr none) = inr (λ k.
        let a = kept_armed ones all sound (ends-ones all) x.id x.start x.asked k in
        none a.0 (subst (λ l. In a.0 (events l)) (thinned-ones all) a.1) a.2)

-- ---- holders

-- lists with the same elements are one where all elements have one start
one_of : (es fs : List LineEvent) → Distinct es → Distinct fs → ((x : LineEvent) → In x es → In x fs) → ((x : LineEvent) → In x fs → In x es) → ((x y : LineEvent) → In x fs → In y fs → x.start ≡ y.start) → es ≡ fs
one_of [] [] d f to back same = refl
one_of [] (y ∷ ys) d f to back same = absurd (back y (inl refl))
one_of (x ∷ xs) [] d f to back same = absurd (to x (inl refl))
one_of (x ∷ []) (y ∷ []) d f to back same = which (to x (inl refl))
  where
    which : (x ≡ y) ⊎ ⊥ → (x ∷ []) ≡ (y ∷ [])
    which (inl is) = ap (λ z. z ∷ []) is
    which (inr i) = absurd i
one_of (x ∷ z ∷ xs) (y ∷ ys) d f to back same = absurd (d.0 z (inl refl) (same z x (to z (inr (inl refl))) (to x (inl refl))))
one_of (x ∷ []) (y ∷ z ∷ ys) d f to back same = absurd (f.0 z (inl refl) (same z y (inr (inl refl)) (inl refl)))

pub record Covers (time : ℤ) (e : LineEvent) : Type 0 where
  pub uncancelled : e.cancelled ≡ false
  pub from : e.start ≤ℤ time
  pub to : time <ℤ e.end

le-test : (a b : ℤ) → int_le a b ≡ true → a ≤ℤ b
le-test a b is = grind (arith, ints)

pub covers-parts : (time : ℤ) (e : LineEvent) → covers time e ≡ true → Covers time e
covers-parts time e c =
    let p = and_parts (not e.cancelled) _ c in let q = and_parts (int_le e.start time) (int_lt time e.end) p.1 in
    record { uncancelled = not-true e.cancelled p.0; from = le-test _ _ q.0; to = lt-test _ _ q.1 }

reached_start : (h : Option ℤ) (time start : ℤ) → before h time ≡ false → start ≤ℤ time → before h start ≡ false
reached_start None time start b l = b
reached_start (Some h) time start b l = grind (arith, ints)

decide_start : (a b : ℤ) → (a ≡ b) ⊎ (a ≡ b → ⊥)
decide_start a b =
    by_test (int_lt a b)
    (λ l. inr (λ is. grind (arith, ints)))
    (λ l. by_test (int_lt b a) (λ g. inr (λ is. grind (arith, ints))) (λ g. inl (grind (arith, ints))))

pub cue_path_holders : CuePathHolders
cue_path_holders copies h past later last r k time b =
    ap (map name_of)
    (one_of (filter (covers time) here) (filter (covers time) there) (distinct-filter (covers time) here part.distinct) (distinct-filter (covers time) there order.distinct)
    (λ x i. let p = In-filtered (covers time) x here i in In-filter (covers time) x there ((law x p.1).0 p.0) p.1)
    (λ x i. let p = In-filtered (covers time) x there i in In-filter (covers time) x here ((law x p.1).1 p.0) p.1)
    (λ x y i j. let p = In-filtered (covers time) x there i in let q = In-filtered (covers time) y there j in
    one_start x y p.0 q.0 (covers-parts time x p.1) (covers-parts time y q.1) (decide_start x.start y.start)))
  where
    front : List Turn
    front = cue_turns (Passed h ∷ past)

    here : List LineEvent
    here = events (thinned copies front)

    there : List LineEvent
    there = events (Passed h ∷ past)

    run : IsRun (Passed h ∷ past)
    run = run_front (Passed h ∷ past) later r.1

    order : Orderly h there
    order = (stand (Passed h ∷ past) run).order

    part : Below here (events front)
    part =
        let f = front_whole h last past later in
        below copies front (cued_goes (Passed h ∷ past) run).sound (ends_front copies front f.0 (subst (KeepsEnds copies) f.1 k.ends))

    law : (x : LineEvent) → covers time x ≡ true → In x here ↔ In x there
    law x c = let p = covers-parts time x c in cue_path copies h past later last r k x p.uncancelled (reached_start h time x.start b p.from)

    one_start : (x y : LineEvent) → In x there → In y there → Covers time x → Covers time y → (x.start ≡ y.start) ⊎ (x.start ≡ y.start → ⊥) → x.start ≡ y.start
    one_start x y i j c d (inl is) = is
    one_start x y i j c d (inr differ) = absurd (split (order.apart x y i j differ))
      where
        split : (x.end ≤ℤ y.start) ⊎ (y.end ≤ℤ x.start) → ⊥
        split (inl l) = omega (arith, ints, l, c.to, d.from)
        split (inr l) = omega (arith, ints, l, d.to, c.from)

-- ---- the invariant

pub invariant : Invariant
invariant copies h past r k a i =
    let m = (below copies (cue_turns (Passed h ∷ past)) (cued_goes (Passed h ∷ past) r).sound k).part a i in
    let p = m.2 in
    (m.0, known_of h past r m.0 m.1, record { id = p.id; start = p.start; asked = p.asked; end = p.end; cancelled = p.cancelled })

pub no_start_refused : NoStartRefused
no_start_refused copies run r k id start end i = kept_armed copies (cue_turns run) (cued_goes run r).sound k id start end i

pub cued_is_sound : CuedIsSound
cued_is_sound run r = (cued_goes run r).sound
