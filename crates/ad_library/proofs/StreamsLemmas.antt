-- All streams that are gathered, one packet more.
use Rattle.std.specs.Prelude.{option_map, slice_get, take, ◌<◌}
use Rattle.std.proofs.Common.{◌≡◌, ℕ, suc, ◌+◌, List, [], ◌∷◌, ◌++◌, Bool, true, false, not, ◌&&◌, ◌||◌, ◌==◌, refl, sym, ap, ◌∙◌, subst, Option, Some, None, length, arith, get_or}
use Rattle.std.proofs.Math.ListN.{set}
use Rattle.std.proofs.lemmas.Bool.{eq-eqb, or_from, or_parts}
use Rattle.std.proofs.lemmas.List.{take_more}
use Rattle.ts_packet.specs.Fields.{on, unit_start, is_among}
use Rattle.ts_packet.specs.Duplicates.{repeats, is_gap}
use Rattle.ts_packet.proofs.Cases.{by_test}
use Rattle.ts_packet.proofs.FieldLemmas.{off_payload}
use Rattle.unit_stream.specs.Times.{begins, begins_one}
use Rattle.psi_tables.specs.declared.stream.Stream.{Stream}
use Rattle.program_follower.specs.Faults.{pids_in}
use Rattle.program_follower.specs.Streaming.{next_place, first_on}
use Rattle.program_follower.proofs.StreamLemmas.{one_of, NeedsOn, first_of, one_pid, begins_is, begins_needs}
use Rattle.ad_library.specs.declared.gathered.Gathered.{Gathered}
use Rattle.ad_library.specs.Faults.{gap_on_one}
use Rattle.ad_library.specs.Gathering.{AllGathered, AreDistinct, GathersStream}
use Rattle.ad_library.proofs.GatheredLemmas.{off, no_gap}
use Rattle.ad_library.proofs.ProgramLemmas.{NoPayload}

-- ---- one stream more

pub all_snoc : {A : Type 0} (gs : List (Gathered A)) (ss : List Stream) (g : Gathered A) (s : Stream) (pids : List ℕ) (past : List (List ℕ)) → AllGathered gs ss pids past → g.kind ≡ s.kind
    → GathersStream g pids s.pid past → AllGathered (gs ++ g ∷ []) (ss ++ s ∷ []) pids past
all_snoc [] [] g s pids past h k e = (k, e, tt)
all_snoc [] (t ∷ ss) g s pids past h k e = absurd h
all_snoc (f ∷ gs) [] g s pids past h k e = absurd h
all_snoc (f ∷ gs) (t ∷ ss) g s pids past h k e = (h.0, h.1, all_snoc gs ss g s pids past h.2 k e)

pub all_more : {A : Type 0} (gs new : List (Gathered A)) (ss : List Stream) (n : ℕ) (s : Stream) (g : Gathered A) (pids : List ℕ) → AllGathered gs (take n ss) pids [] → n < length ss
    → get_or ss n s ≡ s → new ≡ gs ++ g ∷ [] → g.kind ≡ s.kind → GathersStream g pids s.pid [] → AllGathered new (take (n + 1) ss) pids []
all_more {A} gs new ss n s g pids h lt is e k w =
    let more : take (n + 1) ss ≡ take n ss ++ s ∷ [] = take_more ss n s lt ∙ ap (λ (t : Stream). take n ss ++ t ∷ []) is in
    subst (λ (xs : List (Gathered A)). AllGathered xs (take (n + 1) ss) pids []) (sym e)
    (subst (λ (ts : List Stream). AllGathered (gs ++ g ∷ []) ts pids []) (sym more) (all_snoc gs (take n ss) g s pids [] h k w))

-- ---- a packet of none of them

module _ (p : List ℕ) (past : List (List ℕ)) where
  pub all_off : {A : Type 0} (gs : List (Gathered A)) (ss : List Stream) (pids : List ℕ) → NoPayload p (pids_in ss) → AllGathered gs ss pids past → AllGathered gs ss pids (p ∷ past)
  all_off [] [] pids n h = tt
  all_off [] (s ∷ ss) pids n h = absurd h
  all_off (g ∷ gs) [] pids n h = absurd h
  all_off (g ∷ gs) (s ∷ ss) pids n h = (h.0, off pids s.pid p past g n.0 h.1, all_off gs ss pids n.1 h.2)

  pub begins_none : (pids : List ℕ) → NoPayload p pids → begins_one pids p past ≡ false
  begins_none [] n = refl
  begins_none (pid ∷ pids) n = or_from (begins pid p past) (begins_one pids p past) (ap (λ b. (b && not (repeats pid p past)) && unit_start p) n.0) (begins_none pids n.1)

  pub gaps_none : (pids : List ℕ) → NoPayload p pids → gap_on_one pids p past ≡ false
  gaps_none [] n = refl
  gaps_none (pid ∷ pids) n = or_from (is_gap pid p past) (gap_on_one pids p past) (no_gap pids pid p past n.0) (gaps_none pids n.1)

  -- ---- a packet of one of them

  abbrev gap_at : ℕ → Bool
  gap_at pid = is_gap pid p past

  gap_needs : NeedsOn gap_at p
  gap_needs pid o = no_gap [] pid p past (off_payload pid p o)

  gap_one_of : (pids : List ℕ) → gap_on_one pids p past ≡ one_of gap_at pids
  gap_one_of [] = refl
  gap_one_of (pid ∷ pids) = ap (λ b. gap_at pid || b) (gap_one_of pids)

  pub gap_first : (pids : List ℕ) (x : ℕ × ℕ) → first_on pids p ≡ Some x → gap_on_one pids p past ≡ is_gap x.1 p past
  gap_first pids x h = gap_one_of pids ∙ first_of gap_at p gap_needs pids x h

  pub begins_first : (pids : List ℕ) (x : ℕ × ℕ) → first_on pids p ≡ Some x → begins_one pids p past ≡ begins x.1 p past
  begins_first pids x h = begins_is p past pids ∙ first_of (λ pid. begins pid p past) p (begins_needs p past) pids x h

  -- the others
  none_behind : (pid : ℕ) (ss : List Stream) → on pid p ≡ true → is_among pid (pids_in ss) ≡ false → NoPayload p (pids_in ss)
  none_behind pid [] o h = tt
  none_behind pid (s ∷ ss) o h =
      let r = or_parts (s.pid == pid) (is_among pid (pids_in ss)) h in
      let not_on : on s.pid p ≡ false = by_test (on s.pid p) (λ y. absurd (let e = one_pid s.pid pid p y o in let f : (s.pid == pid) ≡ true = eq-eqb s.pid pid e in let g : true ≡ false = sym f ∙ r.0 in cc)) (λ n. n) in
      (off_payload s.pid p not_on, none_behind pid ss o r.1)

  -- what holds of the stream at this place, where there is one
  abbrev pub At : {A : Type 0} → List (Gathered A) → ℕ → ℕ → List ℕ → Type 0
  At {A} gs i pid pids = (g : Gathered A) → slice_get gs i ≡ Some g → GathersStream g pids pid past

  some_pair : (a b : ℕ × ℕ) → Some a ≡ Some b → a ≡ b
  some_pair a b h = cc

  record Later (o : Option (ℕ × ℕ)) (x : ℕ × ℕ) : Type 0 where
    before : ℕ × ℕ
    is : o ≡ Some before
    place_is : before.0 + 1 ≡ x.0
    pid_is : before.1 ≡ x.1

  later : (o : Option (ℕ × ℕ)) (x : ℕ × ℕ) → option_map next_place o ≡ Some x → Later o x
  later None x h = absurd (cc)
  later (Some y) x h = let e = some_pair (next_place y) x h in record { before = y; is = refl; place_is = ap (λ (z : ℕ × ℕ). z.0) e; pid_is = ap (λ (z : ℕ × ℕ). z.1) e }

  -- the stream of the packet is there
  pub found : {A : Type 0} (gs : List (Gathered A)) (ss : List Stream) (pids : List ℕ) (x : ℕ × ℕ) → AllGathered gs ss pids past → first_on (pids_in ss) p ≡ Some x
      → (g : Gathered A) × (slice_get gs x.0 ≡ Some g) × GathersStream g pids x.1 past
  found [] [] pids x h f = absurd (cc)
  found [] (s ∷ ss) pids x h f = absurd h
  found (g ∷ gs) [] pids x h f = absurd h
  found (g ∷ gs) (s ∷ ss) pids x h f =
      by_test (on s.pid p)
      (λ y. let e = some_pair (0, s.pid) x (simp y at f) in (g, ap (λ (z : ℕ × ℕ). slice_get (g ∷ gs) z.0) (sym e), subst (λ (z : ℕ × ℕ). GathersStream g pids z.1 past) e h.1))
      (λ n. let l = later (first_on (pids_in ss) p) x (simp n at f) in
      let (t, at, is) = found gs ss pids l.before h.2 l.is in
      let place : suc l.before.0 ≡ x.0 = omega (arith, l.place_is) in
      (t, ap (λ k. slice_get (g ∷ gs) k) (sym place) ∙ at, subst (λ k. GathersStream t pids k past) l.pid_is is))

  -- it has taken the packet, and all others are off it
  pub all_set : {A : Type 0} (gs : List (Gathered A)) (ss : List Stream) (pids : List ℕ) (x : ℕ × ℕ) (old new : Gathered A) → AllGathered gs ss pids past → AreDistinct (pids_in ss)
      → first_on (pids_in ss) p ≡ Some x → slice_get gs x.0 ≡ Some old → new.kind ≡ old.kind → GathersStream new pids x.1 (p ∷ past) → AllGathered (set gs x.0 new) ss pids (p ∷ past)
  all_set [] [] pids x old new h a f e k w = absurd (cc)
  all_set [] (s ∷ ss) pids x old new h a f e k w = absurd h
  all_set (g ∷ gs) [] pids x old new h a f e k w = absurd h
  all_set (g ∷ gs) (s ∷ ss) pids x old new h a f e k w =
      by_test (on s.pid p)
      (λ y. let same = some_pair (0, s.pid) x (simp y at f) in
      let place : 0 ≡ x.0 = ap (λ (z : ℕ × ℕ). z.0) same in
      let own : s.pid ≡ x.1 = ap (λ (z : ℕ × ℕ). z.1) same in
      let is_old : Some g ≡ Some old = ap (slice_get (g ∷ gs)) place ∙ e in
      let kind : g.kind ≡ old.kind = (let q : g ≡ old = cc in ap (λ (z : Gathered _). z.kind) q) in
      subst (λ i. AllGathered (set (g ∷ gs) i new) (s ∷ ss) pids (p ∷ past)) place (
        k ∙ sym kind ∙ h.0,
        subst (λ n. GathersStream new pids n (p ∷ past)) (sym own) w,
        all_off gs ss pids (none_behind s.pid ss y a.0) h.2,
      ))
      (λ n. let l = later (first_on (pids_in ss) p) x (simp n at f) in
      let place : suc l.before.0 ≡ x.0 = omega (arith, l.place_is) in
      let at : slice_get gs l.before.0 ≡ Some old = ap (slice_get (g ∷ gs)) place ∙ e in
      subst (λ i. AllGathered (set (g ∷ gs) i new) (s ∷ ss) pids (p ∷ past)) place (
        h.0,
        off pids s.pid p past g (off_payload s.pid p n) h.1,
        all_set gs ss pids l.before old new h.2 a.1 l.is at k (subst (λ m. GathersStream new pids m (p ∷ past)) (sym l.pid_is) w),
      ))
