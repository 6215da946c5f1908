-- The switch arms what the definitions on the line say.
use Rattle.std.proofs.Common.{◌≡◌, ℕ, ◌^◌, ◌<◌, ◌≤◌, ◌==◌, nat_lt, Bool, true, false, not, ◌&&◌, ◌||◌, cond, inl, inr, refl, sym, ap, ◌∙◌, subst, List, [], ◌∷◌, length, arith, if◌then◌else◌}
use Rattle.std.specs.Prelude.{ℤ, pos, ◌+ℤ◌, ◌≤ℤ◌, ◌<ℤ◌, int_lt, int_le, map, filter, find, Option, None, Some, Ok, Err}
use Rattle.std.specs.List.{list_any}
use Rattle.std.specs.Ordering.{int_eq}
use Rattle.std.proofs.lemmas.Int.{ints}
use Rattle.std.proofs.lemmas.Bool.Decides.{nat_tests}
use Rattle.std.proofs.lemmas.Bool.{and_left, and_parts, and_right}
use Rattle.ts_packet.proofs.Cases.{by_test}
use Rattle.event_table.specs.Standing.{Standing, end_of, has_id, is_full, is_ahead_of, is_early_end, has_begun, meets, repeats, cancel_answer_of, cancel_answer, shorten_answer_of, shorten_answer, cancelled_one, ending_at, with_first, stands, is_of}
use Rattle.event_table.specs.declared.table.Armed.TheVariants.{New, Same}
use Rattle.event_table.specs.declared.table.ArmRefusal.TheVariants.{InUse, Full, Overlap}
use Rattle.event_table.specs.declared.table.ShortenRefusal.TheVariants.{BadEnd}
use Rattle.armed_events.specs.Arming.{is_fresh, Keep, Ignore, by_arm_answer, by_shorten_answer, by_cancel_answer, start_change, end_change, cancel_change, standing_at, changed}
use Rattle.event_table.proofs.EventLemmas.{ending-end}
use Rattle.cue_laws.specs.Events.{Turn, Started, Cancelled, Ended, Passed, LineEvent, high, before, events, taken, NeverFalls, can_start, can_cancel, can_end, cancel_by, end_by, count, bars}
use Rattle.cue_laws.specs.Events.{stands as line_stands, is_of as line_is_of}
use Rattle.cue_laws.proofs.Settling.{can_start-parts, can_end-parts}
use Rattle.cue_laws.proofs.Lists.{Distinct}
use Rattle.cue_laws.proofs.Orders.{Orderly, orderly-none, orderly-map, orderly-fresh, orderly-passed, cancel-shrinks, end-shrinks, is_of-parts, or-neither, or-right}
use Rattle.cue_laws.proofs.Block.{end-off}
use Rattle.pes_time.proofs.IntLemmas.{lt-test}
use Rattle.ts_packet.specs.Membership.{In}
use Rattle.ts_packet.proofs.MembershipLemmas.{any-none}
use Rattle.path_laws.proofs.Alike.{Alike, AtMostOnce, alike-in, alike-any, alike-count, alike-first, find-none, find-some, map-off, map-same}

-- the event as the definitions on the line have it
abbrev pub view : Standing → LineEvent
view s = record { id = s.id; start = s.start; asked = s.start +ℤ pos s.asked; end = end_of s; cancelled = s.cancelled }

abbrev pub IsView : Standing → LineEvent → Type 0
IsView s e = view s ≡ e

-- ---- lists

pub any-filter : {X : Type 0} (f g : X → Bool) (xs : List X) → list_any g (filter f xs) ≡ list_any (λ x. f x && g x) xs
any-filter f g [] = refl
any-filter f g (x ∷ xs) = by_test (f x) (λ u. simp u (ap (λ b. g x || b) (any-filter f g xs))) (λ u. simp u (any-filter f g xs))

pub find-filter : {X : Type 0} (f g : X → Bool) (xs : List X) → find (λ x. f x && g x) xs ≡ find g (filter f xs)
find-filter f g [] = refl
find-filter f g (x ∷ xs) = by_test (f x) (λ u. simp u (ap (λ r. cond (g x) (Some x) r) (find-filter f g xs))) (λ u. simp u (find-filter f g xs))

pub any-mono : {X : Type 0} (p q : X → Bool) → ((x : X) → p x ≡ true → q x ≡ true) → (xs : List X) → list_any q xs ≡ false → list_any p xs ≡ false
any-mono p q implies [] none = refl
any-mono p q implies (x ∷ xs) none =
    by_test (q x)
    (λ u. let no = simp u at none in cc)
    (λ u. let n = simp u at none in let off : p x ≡ false = by_test (p x) (λ v. let w = implies x v in let bad : true ≡ false = sym w ∙ u in cc) (λ v. v) in simp off (any-mono p q implies xs n))

-- of events in order at most one stands with an id
once-by : (h : Option ℤ) (id : ℕ) (es : List LineEvent) → ((x y : LineEvent) → In x es → In y es → line_stands h x ≡ true → line_stands h y ≡ true → x.id ≡ y.id → x.start ≡ y.start)
    → Distinct es → AtMostOnce (line_is_of h id) es
once-by h id [] ids d = tt
once-by h id (y ∷ es) ids d = (
  λ on. any-none (line_is_of h id) es (λ x i. by_test (line_is_of h id x)
      (λ t. let a = is_of-parts h id x t in let b = is_of-parts h id y on in absurd (d.0 x i (ids x y (inr i) (inl refl) a.0 b.0 (a.1 ∙ sym b.1))))
      (λ f. f)),
  once-by h id es (λ a b i j. ids a b (inr i) (inr j)) d.1,
)

pub at-most-once : (h : Option ℤ) (id : ℕ) (es : List LineEvent) → Orderly h es → AtMostOnce (line_is_of h id) es
at-most-once h id es o = once-by h id es o.ids o.distinct

-- the one that stands with an id
pub the-one : (h : Option ℤ) (id : ℕ) (es : List LineEvent) → Orderly h es → (x y : LineEvent) → In x es → In y es → line_is_of h id x ≡ true → line_is_of h id y ≡ true → x ≡ y
the-one h id es o x y i j t u =
    let a = is_of-parts h id x t in let b = is_of-parts h id y u in
    o.same x y i j (o.ids x y i j a.0 b.0 (a.1 ∙ sym b.1))

-- where the greatest time never falls, events are in order
pub in-order : (all : List Turn) → NeverFalls all → Orderly (high all) (events all)
in-order [] n = orderly-none
in-order (Started id start end ∷ past) n =
    by_test (can_start (high past) id start end (events past))
    (λ can. simp can (orderly-fresh (high past) id start end (events past) (can_start-parts _ _ _ _ _ can) (in-order past n)))
    (λ can. simp can (in-order past n))
in-order (Cancelled id ∷ past) n = orderly-map (high past) (cancel_by (high past) id) (cancel-shrinks (high past) id) (events past) (in-order past n)
in-order (Ended id time ∷ past) n = orderly-map (high past) (end_by (high past) id time) (end-shrinks (high past) id time) (events past) (in-order past n)
in-order (Passed h ∷ past) n = orderly-passed (high past) h n.0 (events past) (in-order past n.1)

-- ---- tests

pub stands-view : (h : Option ℤ) (s : Standing) → stands h s ≡ line_stands h (view s)
stands-view None s = refl
stands-view (Some h) s = refl

pub is_of-view : (h : Option ℤ) (id : ℕ) (s : Standing) (e : LineEvent) → view s ≡ e → is_of h id s ≡ line_is_of h id e
is_of-view h id s e v = ap (λ b. b && has_id id s) (stands-view h s) ∙ ap (line_is_of h id) v

-- ---- what changes nothing

pub cancel-off : (h : Option ℤ) (id : ℕ) (e : LineEvent) → can_cancel h id e ≡ false → cancel_by h id e ≡ e
cancel-off h id e off = ap (λ c. made c) (or-neither e.cancelled (can_cancel h id e) off)
  where
    made : Bool → LineEvent
    made c = record { id = e.id; start = e.start; asked = e.asked; end = e.end; cancelled = c }

-- ---- cancels

module _ (h : Option ℤ) (id : ℕ) (xs : List Standing) (ys : List LineEvent) (o : Orderly h ys) (a : Alike IsView xs ys) where
  nothing-cancelled : (y : LineEvent) → In y ys → line_is_of h id y ≡ true → before h y.start ≡ false → map (cancel_by h id) ys ≡ ys
  nothing-cancelled y i t late = map-same (cancel_by h id) ys (λ z j. by_test (line_is_of h id z)
      (λ u. cancel-off h id z (and_right (line_is_of h id z) (before h z.start) (ap (λ (e : LineEvent). before h e.start) (the-one h id ys o z y j i u t) ∙ late)))
      (λ u. cancel-off h id z (and_left (line_is_of h id z) (before h z.start) u)))

  begun-is : (s : Standing) → has_begun h s ≡ not (before h s.start)
  begun-is s = by h
    where
      late : (k start : ℤ) → int_le start k ≡ not (int_lt k start)
      late k start = grind (arith, ints)

      by : (k : Option ℤ) → has_begun k s ≡ not (before k s.start)
      by None = refl
      by (Some k) = late k s.start

  some-cancelled : (y : LineEvent) → In y ys → line_is_of h id y ≡ true → before h y.start ≡ true → Alike IsView (with_first (is_of h id) cancelled_one xs) (map (cancel_by h id) ys)
  some-cancelled y i t early =
      alike-first IsView (is_of h id) (line_is_of h id) (is_of-view h id) cancelled_one (cancel_by h id)
      (λ z u. cancel-off h id z (and_left (line_is_of h id z) (before h z.start) u)) xs ys
      (λ s z j v u. let same = the-one h id ys o z y j i u t in
      let can : can_cancel h id z ≡ true = let e = ap (λ (w : LineEvent). before h w.start) same ∙ early in simp (u, e) refl in
      ap made v ∙ ap (λ c. with_c z c) (sym (or-right z.cancelled (can_cancel h id z) can)))
      (at-most-once h id ys o) a
    where
      with_c : LineEvent → Bool → LineEvent
      with_c e c = record { id = e.id; start = e.start; asked = e.asked; end = e.end; cancelled = c }

      made : LineEvent → LineEvent
      made e = with_c e true

  cancel-found : (f : Option Standing) → find (is_of h id) xs ≡ f → Alike IsView (changed h (by_cancel_answer id (cancel_answer_of h f)) xs) (map (cancel_by h id) ys)
  cancel-found None is =
      let none : list_any (line_is_of h id) ys ≡ false = sym (alike-any IsView (is_of h id) (line_is_of h id) (is_of-view h id) xs ys a) ∙ find-none (is_of h id) xs is in
      subst (Alike IsView xs) (sym (map-off (line_is_of h id) (cancel_by h id) (λ z u. cancel-off h id z (and_left (line_is_of h id z) (before h z.start) u)) ys none)) a
  cancel-found (Some s) is =
      let f = find-some (is_of h id) s xs is in
      let r = alike-in IsView s xs ys a f.0 in
      let t : line_is_of h id r.0 ≡ true = sym (is_of-view h id s r.0 r.2) ∙ f.1 in
      let begun : has_begun h s ≡ not (before h (r.0).start) = begun-is s ∙ ap (λ (e : LineEvent). not (before h e.start)) r.2 in
      by_test (before h (r.0).start)
      (λ early. let b : has_begun h s ≡ false = begun ∙ ap not early in simp b (some-cancelled r.0 r.1 t early))
      (λ late. let b : has_begun h s ≡ true = begun ∙ ap not late in simp b (subst (Alike IsView xs) (sym (nothing-cancelled r.0 r.1 t late)) a))

  pub cancel-alike : Alike IsView (changed h (cancel_change h (standing_at h xs) id) xs) (map (cancel_by h id) ys)
  cancel-alike =
      let same : cancel_answer_of h (find (is_of h id) xs) ≡ cancel_answer h (standing_at h xs) id = ap (cancel_answer_of h) (find-filter (stands h) (has_id id) xs) in
      subst (λ c. Alike IsView (changed h (by_cancel_answer id c) xs) (map (cancel_by h id) ys)) same (cancel-found (find (is_of h id) xs) refl)

-- ---- early ends

module _ (h : ℤ) (id : ℕ) (time : ℤ) (near : time ≤ℤ (h +ℤ pos (2 ^ 29))) (xs : List Standing) (ys : List LineEvent) (o : Orderly (Some h) ys) (a : Alike IsView xs ys) where
  nothing-ended : (y : LineEvent) → In y ys → line_is_of (Some h) id y ≡ true → can_end (Some h) id time y ≡ false → map (end_by (Some h) id time) ys ≡ ys
  nothing-ended y i t off = map-same (end_by (Some h) id time) ys (λ z j. by_test (line_is_of (Some h) id z)
      (λ u. end-off (Some h) id time z (ap (can_end (Some h) id time) (the-one (Some h) id ys o z y j i u t) ∙ off))
      (λ u. end-off (Some h) id time z (and_left (line_is_of (Some h) id z) _ u)))

  some-ended : (y : LineEvent) → In y ys → line_is_of (Some h) id y ≡ true → can_end (Some h) id time y ≡ true → Alike IsView (with_first (is_of (Some h) id) (ending_at time) xs) (map (end_by (Some h) id time) ys)
  some-ended y i t can =
      alike-first IsView (is_of (Some h) id) (line_is_of (Some h) id) (is_of-view (Some h) id) (ending_at time) (end_by (Some h) id time)
      (λ z u. end-off (Some h) id time z (and_left (line_is_of (Some h) id z) _ u)) xs ys
      (λ s z j v u. let same = the-one (Some h) id ys o z y j i u t in
      let now : can_end (Some h) id time z ≡ true = ap (can_end (Some h) id time) same ∙ can in
      let past = (can_end-parts (Some h) id time z now).past in
      let start : s.start ≡ z.start = ap (λ (e : LineEvent). e.start) v in
      let new : end_of (ending_at time s) ≡ time = ending-end s.start time (subst (λ k. k <ℤ time) (sym start) past) in
      ap (λ k. with_end (view s) k) new ∙ ap (λ e. with_end e time) v ∙ ap (λ b. with_end z (cond b time z.end)) (sym now))
      (at-most-once (Some h) id ys o) a
    where
      with_end : LineEvent → ℤ → LineEvent
      with_end e k = record { id = e.id; start = e.start; asked = e.asked; end = k; cancelled = e.cancelled }

  not-end : (y : LineEvent) → (can_end (Some h) id time y ≡ true → ⊥) → can_end (Some h) id time y ≡ false
  not-end y never = by_test (can_end (Some h) id time y) (λ c. absurd (never c)) (λ c. c)

  ended-kinds : (s : Standing) (y : LineEvent) → In y ys → view s ≡ y → line_is_of (Some h) id y ≡ true
      → (b c d e : Bool) → is_ahead_of (Some h) time ≡ b → s.cancelled ≡ c → int_eq time (end_of s) ≡ d → is_early_end s time ≡ e
      → Alike IsView (changed (Some h) (by_shorten_answer id time (if not b then Err BadEnd else if c then Err BadEnd else if d then Ok Same else if e then Ok New else Err BadEnd)) xs) (map (end_by (Some h) id time) ys)
  ended-kinds s y i v t false c d e bis cis dis eis =
      subst (Alike IsView xs) (sym (nothing-ended y i t (not-end y (λ can. let p = lt-test h time (can_end-parts (Some h) id time y can).ahead in far h time near p bis)))) a
    where
      far : (k m : ℤ) → m ≤ℤ (k +ℤ pos (2 ^ 29)) → k <ℤ m → (int_lt k m && int_le m (k +ℤ pos (2 ^ 29))) ≡ false → ⊥
      far k m l g is = grind (arith, ints)
  ended-kinds s y i v t true true d e bis cis dis eis =
      subst (Alike IsView xs) (sym (nothing-ended y i t (not-end y (λ can. let p = (can_end-parts (Some h) id time y can).uncancelled in
      let bad : true ≡ false = sym cis ∙ ap (λ (w : LineEvent). w.cancelled) v ∙ p in absurd (let no = bad in cc))))) a
  ended-kinds s y i v t true false true e bis cis dis eis =
      subst (Alike IsView xs) (sym (nothing-ended y i t (not-end y (λ can. let p = (can_end-parts (Some h) id time y can).earlier in
      let end : end_of s ≡ y.end = ap (λ (w : LineEvent). w.end) v in last time (end_of s) dis (subst (λ k. time <ℤ k) (sym end) p))))) a
    where
      last : (m k : ℤ) → int_eq m k ≡ true → m <ℤ k → ⊥
      last m k is l = grind (arith, ints)
  ended-kinds s y i v t true false false false bis cis dis eis =
      subst (Alike IsView xs) (sym (nothing-ended y i t (not-end y (λ can. let p = can_end-parts (Some h) id time y can in
      let end : end_of s ≡ y.end = ap (λ (w : LineEvent). w.end) v in let start : s.start ≡ y.start = ap (λ (w : LineEvent). w.start) v in
      outside s.start time (end_of s) eis (subst (λ k. k <ℤ time) (sym start) p.past) (subst (λ k. time <ℤ k) (sym end) p.earlier))))) a
    where
      outside : (b m k : ℤ) → (int_lt b m && int_lt m k) ≡ false → b <ℤ m → m <ℤ k → ⊥
      outside b m k is l g = grind (arith, ints)
  ended-kinds s y i v t true false false true bis cis dis eis = some-ended y i t (can y v)
    where
      tests : (w : LineEvent) (b : Bool) → line_is_of (Some h) id w ≡ true → w.cancelled ≡ false → int_lt w.start time ≡ true → int_lt h time ≡ true → int_lt time w.end ≡ true → can_end (Some h) id time w ≡ true
      tests w b p q r u z = simp (p, q, r, u, z) refl

      can : (w : LineEvent) → view s ≡ w → can_end (Some h) id time w ≡ true
      can w same =
          let early = and_parts (int_lt s.start time) (int_lt time (end_of s)) eis in
          let ahead = and_parts (int_lt h time) _ bis in
          tests w true (ap (line_is_of (Some h) id) (sym same ∙ v) ∙ t) (sym (ap (λ (z : LineEvent). z.cancelled) same) ∙ cis)
          (ap (λ (z : LineEvent). int_lt z.start time) (sym same) ∙ early.0) ahead.0 (ap (λ (z : LineEvent). int_lt time z.end) (sym same) ∙ early.1)

  end-found : (f : Option Standing) → find (is_of (Some h) id) xs ≡ f → Alike IsView (changed (Some h) (by_shorten_answer id time (shorten_answer_of (Some h) time f)) xs) (map (end_by (Some h) id time) ys)
  end-found None is =
      let none : list_any (line_is_of (Some h) id) ys ≡ false = sym (alike-any IsView (is_of (Some h) id) (line_is_of (Some h) id) (is_of-view (Some h) id) xs ys a) ∙ find-none (is_of (Some h) id) xs is in
      subst (Alike IsView xs) (sym (map-off (line_is_of (Some h) id) (end_by (Some h) id time) (λ z u. end-off (Some h) id time z (and_left (line_is_of (Some h) id z) _ u)) ys none)) a
  end-found (Some s) is =
      let f = find-some (is_of (Some h) id) s xs is in
      let r = alike-in IsView s xs ys a f.0 in
      let t : line_is_of (Some h) id r.0 ≡ true = sym (is_of-view (Some h) id s r.0 r.2) ∙ f.1 in
      ended-kinds s r.0 r.1 r.2 t (is_ahead_of (Some h) time) s.cancelled (int_eq time (end_of s)) (is_early_end s time) refl refl refl refl

  pub end-alike : Alike IsView (changed (Some h) (end_change (Some h) (standing_at (Some h) xs) id time) xs) (map (end_by (Some h) id time) ys)
  end-alike =
      let same : shorten_answer_of (Some h) time (find (is_of (Some h) id) xs) ≡ shorten_answer (Some h) (standing_at (Some h) xs) id time = ap (shorten_answer_of (Some h) time) (find-filter (stands (Some h)) (has_id id) xs) in
      subst (λ c. Alike IsView (changed (Some h) (by_shorten_answer id time c) xs) (map (end_by (Some h) id time) ys)) same (end-found (find (is_of (Some h) id) xs) refl)

-- ---- starts

module _ (h : ℤ) (id : ℕ) (start : ℤ) (ticks program : ℕ) (near : start ≤ℤ (h +ℤ pos (2 ^ 29))) (some : 0 < ticks) (most : ticks ≤ 2 ^ 30)
    (xs : List Standing) (ys : List LineEvent) (o : Orderly (Some h) ys) (a : Alike IsView xs ys) where
  abbrev pub event : Standing
  event = record { id = id; start = start; length = ticks; asked = ticks; program = program; cancelled = false }

  abbrev pub here : List Standing
  here = standing_at (Some h) xs

  pub used-is : list_any (has_id id) here ≡ list_any (line_is_of (Some h) id) ys
  used-is = any-filter (stands (Some h)) (has_id id) xs ∙ alike-any IsView (is_of (Some h) id) (line_is_of (Some h) id) (is_of-view (Some h) id) xs ys a

  pub meets-is : list_any (meets event) here ≡ list_any (bars (Some h) start (start +ℤ pos ticks)) ys
  meets-is = any-filter (stands (Some h)) (meets event) xs
      ∙ alike-any IsView (λ s. stands (Some h) s && meets event s) (bars (Some h) start (start +ℤ pos ticks)) (λ s e v. ap (bars (Some h) start (start +ℤ pos ticks)) v) xs ys a

  full-by : (n m : ℕ) → n ≡ m → m ≤ 32 → not (n == 32) ≡ nat_lt m 32
  full-by n m same room = grind (arith, nat_tests)

  pub full-is : not (is_full here) ≡ nat_lt (count (Some h) ys) 32
  full-is = full-by (length here) (count (Some h) ys) (alike-count IsView (stands (Some h)) (line_stands (Some h)) (λ s e v. ap (line_stands (Some h)) v) xs ys a) o.room

  repeats-id : (s : Standing) → repeats event s ≡ true → has_id id s ≡ true
  repeats-id s is = let p = and_parts _ _ is in let q = and_parts _ _ p.0 in let r = and_parts _ _ q.0 in same s.id r.0
    where
      same : (n : ℕ) → (id == n) ≡ true → (n == id) ≡ true
      same n e = grind (arith, nat_tests)

  fresh-is : is_fresh event ≡ true
  fresh-is = grind (arith, nat_tests)

  ahead-is : is_ahead_of (Some h) start ≡ before (Some h) start
  ahead-is = by h start near
    where
      by : (k m : ℤ) → m ≤ℤ (k +ℤ pos (2 ^ 29)) → (int_lt k m && int_le m (k +ℤ pos (2 ^ 29))) ≡ int_lt k m
      by k m l = grind (arith, ints)

  pub some-is : int_lt start (start +ℤ pos ticks) ≡ true
  some-is = grind (arith, ints)

  kinds : (again ahead used full met : Bool) → (used ≡ false → again ≡ false) → can_start (Some h) id start (start +ℤ pos ticks) ys ≡ (ahead && (not used && (not full && not met)))
      → Alike IsView (changed (Some h) (if again then Keep else (if ahead then by_arm_answer event (if again then Ok Same else if used then Err InUse else if full then Err Full else if met then Err Overlap else Ok New) else Ignore)) xs)
      (taken (Some h) (Started id start (start +ℤ pos ticks)) ys)
  kinds true ahead false full met k is = let no = k refl in cc
  kinds true true true full met k is = simp is a
  kinds true false true full met k is = simp is a
  kinds false false used full met k is = simp is a
  kinds false true true full met k is = simp is a
  kinds false true false true met k is = simp is a
  kinds false true false false true k is = simp is a
  kinds false true false false false k is = simp is (xs, event, refl, refl, a)

  pub start-alike : Alike IsView (changed (Some h) (start_change (Some h) here event) xs) (taken (Some h) (Started id start (start +ℤ pos ticks)) ys)
  start-alike = simp (fresh-is, ahead-is) (kinds (list_any (repeats event) here) (before (Some h) start) (list_any (has_id id) here) (is_full here) (list_any (meets event) here)
      (λ none. any-mono (repeats event) (has_id id) repeats-id here none)
      (simp (some-is, used-is, full-is, meets-is) refl))
