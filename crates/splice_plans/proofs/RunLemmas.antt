-- The event that runs in a stream, and how far the greatest time lies past its start.
use Rattle.std.proofs.Common.{◌≡◌, ℕ, zero, suc, ◌+◌, ◌^◌, ◌<◌, ◌≤◌, cond, w64, refl, sym, ap, ◌∙◌, subst, arith, List, [], ◌∷◌, length, Bool, true, false}
use Rattle.std.proofs.lemmas.Bool.{ltb-false}
use Rattle.std.specs.Prelude.{ℤ, pos, negsuc, ◌+ℤ◌, ◌-ℤ◌, ◌≤ℤ◌, ◌<ℤ◌, int_lt, nat_lt, unsigned_abs, Option, None, Some, slice_index_or, slice_set, map, find, position}
use Rattle.std.specs.List.{position_or_len}
use Rattle.std.specs.Int.{cast_signed, cast_unsigned}
use Rattle.std.proofs.lemmas.Int.{ints, fits_signed_from_abs, to_z-of_z}
use Rattle.std.proofs.lemmas.List.{get_or_default}
use Rattle.pes_time.specs.Line.{ring_of, signed, Near}
use Rattle.pes_time.proofs.LineLemmas.{signed-near}
use Rattle.event_table.specs.declared.event.Event.{Event}
use Rattle.event_table.specs.declared.table.Entry.{Entry}
use Rattle.event_table.specs.declared.table.Table.{Table}
use Rattle.event_table.specs.Rings.{is_before_on_ring}
use Rattle.event_table.specs.Standing.{Standing, on_ring, IsWithin, IsInReach}
use Rattle.event_table.specs.Tables.{StandsFor, values_of}
use Rattle.event_table.proofs.TableLemmas.{length-entries}
use Rattle.psi_tables.specs.declared.stream.Stream.{Stream}
use Rattle.ts_packet.specs.Numbering.{Step}
use Rattle.ad_library.specs.Advertisements.{Advertisement}
use Rattle.splice_plans.specs.declared.plan.Stage.TheVariants.{Running}
use Rattle.splice_plans.specs.declared.plan.Plan.{Plan}
use Rattle.splice_plans.specs.Turning.{part_of}
use Rattle.splice_plans.specs.Parts.{IsReached, reached_by, no_entry, no_standing, beside, is_running, runs_in, packets_in, part_put, found_packets, running_packets, ran_plan, ran_plans}
use Rattle.splice_plans.proofs.TurnLemmas.{event-there, within-there}

near-start : (h t : ℤ) (e : Standing) → IsInReach h e → h ≤ℤ t → t ≤ℤ (h +ℤ pos 900000) → Near t e.start
near-start h t e reach low top =
    let some = reach.some in
    let shortened = reach.shortened in
    let most = reach.most in
    let start = reach.start in
    let stands = reach.stands in
    record { above = omega (arith, ints); below = omega (arith, ints) }

-- the way on the ring is that on the line
pub way-past : (latest : Option ℤ) (e : Standing) (p : ℕ) (t : ℤ) → IsWithin latest e → IsReached latest (Some p) (Some t) → signed p (ring_of e.start) ≡ t -ℤ e.start
way-past None e p t within is = absurd within
way-past (Some h) e p t within is = ap (λ q. signed q (ring_of e.start)) is.0 ∙ signed-near t e.start (near-start h t e within is.1 is.2)

past-one : (t start way : ℤ) → way ≡ t -ℤ start → way <ℤ pos 0 → int_lt t start ≡ true
past-one t start way is h = grind (arith, ints, is, h)

at-one : (t start way : ℤ) → way ≡ t -ℤ start → pos 0 ≤ℤ way → int_lt t start ≡ false
at-one t start way is h = grind (arith, ints, is, h)

pub reached-none : (t : ℤ) (e : Standing) (way : ℤ) → way ≡ t -ℤ e.start → way <ℤ pos 0 → Some 0 ≡ reached_by (Some t) e
reached-none t e way is h = rw (past-one t e.start way is h) refl

pub reached-some : (t : ℤ) (e : Standing) (way : ℤ) (n : ℕ) → way ≡ t -ℤ e.start → pos 0 ≤ℤ way → way ≡ pos n → Some n ≡ reached_by (Some t) e
reached-some t e way n is h k = rw (at-one t e.start way is h) (ap (λ w. Some (unsigned_abs w)) (sym k ∙ is))

-- the event at a place of a table
module _ (t : Table Plan) (latest : Option ℤ) (es : List Standing) (s : StandsFor t latest es) (at : ℕ) (below : at < length t.entries.items) (entry : Entry Plan) (there : entry ≡ slice_index_or t.entries.items at entry)
    (e : Standing) (e_there : e ≡ slice_index_or es at e) where
  pub e-is : e ≡ slice_index_or es at no_standing
  e-is = let n = length-entries t latest es s in e_there ∙ get_or_default es at e no_standing (omega (arith, n, below))

  pub entry-on : entry.event ≡ on_ring e
  entry-on = ap (λ (x : Entry Plan). x.event) (there ∙ get_or_default t.entries.items at entry no_entry below) ∙ event-there t latest es s at below ∙ ap on_ring (sym e-is)

  pub e-within : IsWithin latest e
  e-within = subst (IsWithin latest) (sym e-is) (within-there t latest es s at below)

below-test : (t start way : ℤ) → way ≡ t -ℤ start → int_lt way (pos 0) ≡ true → int_lt t start ≡ true
below-test t start way is h = grind (arith, ints, is, h)

past-test : (t start way : ℤ) → way ≡ t -ℤ start → int_lt way (pos 0) ≡ false → int_lt t start ≡ false
past-test t start way is h = grind (arith, ints, is, h)

pub reached-below : (latest latest_behind : Option ℤ) (p : ℕ) (e : Standing) → IsWithin latest e → IsReached latest (Some p) latest_behind → is_before_on_ring p (ring_of e.start) ≡ true → Some 0 ≡ reached_by latest_behind e
reached-below latest None p e within is h = absurd is
reached-below latest (Some t) p e within is h = rw (below-test t e.start (signed p (ring_of e.start)) (way-past latest e p t within is) h) refl

pub reached-past : (latest latest_behind : Option ℤ) (p : ℕ) (e : Standing) (n : ℕ) → IsWithin latest e → IsReached latest (Some p) latest_behind → is_before_on_ring p (ring_of e.start) ≡ false → signed p (ring_of e.start) ≡ pos n → Some n ≡ reached_by latest_behind e
reached-past latest None p e n within is h k = absurd is
reached-past latest (Some t) p e n within is h k =
    rw (past-test t e.start (signed p (ring_of e.start)) (way-past latest e p t within is) h) (ap (λ w. Some (unsigned_abs w)) (sym k ∙ way-past latest e p t within is))

pub abs-past : (way : ℤ) → int_lt way (pos 0) ≡ false → way ≡ pos (unsigned_abs way)
abs-past (pos n) h = refl
abs-past (negsuc n) h = absurd (grind (arith, ints, h))

way-small : (way : ℤ) → int_lt way (pos 0) ≡ false → way <ℤ pos (2 ^ 32) → unsigned_abs way < 2 ^ 63
way-small (pos n) h k = omega (arith, ints, k)
way-small (negsuc n) h k = absurd (grind (arith, ints, h))

-- a way that is not negative, read back
pub way-back : (way : ℤ) → int_lt way (pos 0) ≡ false → way <ℤ pos (2 ^ 32) → cast_signed w64 (cast_unsigned w64 way) ≡ way
way-back way h k = to_z-of_z w64 way (fits_signed_from_abs w64 way (way-small way h k))

-- ---- the event that runs

-- the first place at which a test passes, among as many as there are
module _ {X : Type 0} (test : X → Bool) where
  first-true : (x : X) (xs : List X) → test x ≡ true → position_or_len test (x ∷ xs) ≡ 0
  first-true x xs h = rw h refl

  first-false : (x : X) (xs : List X) → test x ≡ false → position_or_len test (x ∷ xs) ≡ 1 + position_or_len test xs
  first-false x xs h = rw h refl

  place-none : (b : Bool) (n m : ℕ) → nat_lt n m ≡ b → None ≡ cond b (Some n) None → m ≤ n
  place-none true n m h k = absurd (cc)
  place-none false n m h k = ltb-false n m h

  place-some : (b : Bool) (n at : ℕ) → Some at ≡ cond b (Some n) None → at ≡ n
  place-some true n at k = cc
  place-some false n at k = absurd (cc)

  pub position-none : (xs : List X) → None ≡ position test xs → length xs ≤ position_or_len test xs
  position-none xs h = place-none (nat_lt (position_or_len test xs) (length xs)) (position_or_len test xs) (length xs) refl h

  pub position-some : (xs : List X) (at : ℕ) → Some at ≡ position test xs → at ≡ position_or_len test xs
  position-some xs at h = place-some (nat_lt (position_or_len test xs) (length xs)) (position_or_len test xs) at h

module _ (filed : ℕ → Option Advertisement) (streams : List Stream) (stream : ℕ) (of : Stream) where
  abbrev runs-there : Entry Plan → Bool
  runs-there entry = is_running (part_of entry.value stream).stage

  abbrev plans-of : List (Entry Plan) → List Plan
  plans-of xs = map (λ (entry : Entry Plan). entry.value) xs

  abbrev pair-at : List Standing → List (Entry Plan) → ℕ → Standing × Plan
  pair-at es xs at = (slice_index_or es at no_standing, slice_index_or (plans-of xs) at no_entry.value)

  seconds : (es : List Standing) (xs : List (Entry Plan)) → length es ≡ length xs → map (λ (y : Standing × Plan). y.1) (beside es (plans-of xs)) ≡ plans-of xs
  seconds [] [] s = refl
  seconds [] (x ∷ xs) s = absurd (omega (arith, s))
  seconds (e ∷ es) [] s = absurd (omega (arith, s))
  seconds (e ∷ es) (x ∷ xs) s = ap (λ l. x.value ∷ l) (seconds es xs (omega (arith, s)))

  find-there : (e : Standing) (es : List Standing) (x : Entry Plan) (xs : List (Entry Plan)) → runs-there x ≡ true
      → find (runs_in filed streams stream of) (beside (e ∷ es) (plans-of (x ∷ xs))) ≡ Some (e, x.value)
  find-there e es x xs h = rw h refl

  find-later : (e : Standing) (es : List Standing) (x : Entry Plan) (xs : List (Entry Plan)) → runs-there x ≡ false
      → find (runs_in filed streams stream of) (beside (e ∷ es) (plans-of (x ∷ xs))) ≡ find (runs_in filed streams stream of) (beside es (plans-of xs))
  find-later e es x xs h = rw h refl

  ran-there : (high : Option ℤ) (e : Standing) (es : List Standing) (x : Entry Plan) (xs : List (Entry Plan)) → length es ≡ length xs → runs-there x ≡ true
      → ran_plans filed streams stream of high (beside (e ∷ es) (plans-of (x ∷ xs))) ≡ ran_plan filed streams stream of high (e, x.value) ∷ plans-of xs
  ran-there high e es x xs s h = rw h (ap (λ l. ran_plan filed streams stream of high (e, x.value) ∷ l) (seconds es xs s))

  ran-later : (high : Option ℤ) (e : Standing) (es : List Standing) (x : Entry Plan) (xs : List (Entry Plan)) → runs-there x ≡ false
      → ran_plans filed streams stream of high (beside (e ∷ es) (plans-of (x ∷ xs))) ≡ x.value ∷ ran_plans filed streams stream of high (beside es (plans-of xs))
  ran-later high e es x xs h = rw h refl

  find-none : (es : List Standing) (xs : List (Entry Plan)) → length es ≡ length xs → length xs ≤ position_or_len runs-there xs → find (runs_in filed streams stream of) (beside es (plans-of xs)) ≡ None
  find-none [] [] s none = refl
  find-none [] (x ∷ xs) s none = absurd (omega (arith, s))
  find-none (e ∷ es) [] s none = absurd (omega (arith, s))
  find-none (e ∷ es) (x ∷ xs) s none = by (runs-there x) refl (find-none es xs)
    where
      by : (b : Bool) → runs-there x ≡ b → (length es ≡ length xs → length xs ≤ position_or_len runs-there xs → find (runs_in filed streams stream of) (beside es (plans-of xs)) ≡ None)
          → find (runs_in filed streams stream of) (beside (e ∷ es) (plans-of (x ∷ xs))) ≡ None
      by true h inner = let f = first-true runs-there x xs h in absurd (omega (arith, f, none))
      by false h inner = let f = first-false runs-there x xs h in find-later e es x xs h ∙ inner (omega (arith, s)) (omega (arith, f, none))

  ran-none : (high : Option ℤ) (es : List Standing) (xs : List (Entry Plan)) → length es ≡ length xs → length xs ≤ position_or_len runs-there xs
      → ran_plans filed streams stream of high (beside es (plans-of xs)) ≡ plans-of xs
  ran-none high [] [] s none = refl
  ran-none high [] (x ∷ xs) s none = absurd (omega (arith, s))
  ran-none high (e ∷ es) [] s none = absurd (omega (arith, s))
  ran-none high (e ∷ es) (x ∷ xs) s none = by (runs-there x) refl (ran-none high es xs)
    where
      by : (b : Bool) → runs-there x ≡ b → (length es ≡ length xs → length xs ≤ position_or_len runs-there xs → ran_plans filed streams stream of high (beside es (plans-of xs)) ≡ plans-of xs)
          → ran_plans filed streams stream of high (beside (e ∷ es) (plans-of (x ∷ xs))) ≡ plans-of (x ∷ xs)
      by true h inner = let f = first-true runs-there x xs h in absurd (omega (arith, f, none))
      by false h inner =
          let f = first-false runs-there x xs h in
          ran-later high e es x xs h ∙ ap (λ l. x.value ∷ l) (inner (omega (arith, s)) (omega (arith, f, none)))

  find-at : (es : List Standing) (xs : List (Entry Plan)) (at : ℕ) → length es ≡ length xs → at ≡ position_or_len runs-there xs → at < length xs
      → find (runs_in filed streams stream of) (beside es (plans-of xs)) ≡ Some (pair-at es xs at)
  find-at [] xs at s is below = absurd (omega (arith, s, below))
  find-at (e ∷ es) [] at s is below = absurd (omega (arith, below))
  find-at (e ∷ es) (x ∷ xs) zero s is below = by (runs-there x) refl
    where
      by : (b : Bool) → runs-there x ≡ b → find (runs_in filed streams stream of) (beside (e ∷ es) (plans-of (x ∷ xs))) ≡ Some (e, x.value)
      by true h = find-there e es x xs h
      by false h = let f = first-false runs-there x xs h in absurd (omega (arith, f, is))
  find-at (e ∷ es) (x ∷ xs) (suc at) s is below = by (runs-there x) refl (find-at es xs at)
    where
      by : (b : Bool) → runs-there x ≡ b
          → (length es ≡ length xs → at ≡ position_or_len runs-there xs → at < length xs → find (runs_in filed streams stream of) (beside es (plans-of xs)) ≡ Some (pair-at es xs at))
          → find (runs_in filed streams stream of) (beside (e ∷ es) (plans-of (x ∷ xs))) ≡ Some (pair-at es xs at)
      by true h inner = let f = first-true runs-there x xs h in absurd (omega (arith, f, is))
      by false h inner =
          let f = first-false runs-there x xs h in
          find-later e es x xs h ∙ inner (omega (arith, s)) (omega (arith, f, is)) (omega (arith, below))

  ran-at : (high : Option ℤ) (es : List Standing) (xs : List (Entry Plan)) (at : ℕ) → length es ≡ length xs → at ≡ position_or_len runs-there xs → at < length xs
      → ran_plans filed streams stream of high (beside es (plans-of xs)) ≡ slice_set (plans-of xs) at (ran_plan filed streams stream of high (pair-at es xs at))
  ran-at high [] xs at s is below = absurd (omega (arith, s, below))
  ran-at high (e ∷ es) [] at s is below = absurd (omega (arith, below))
  ran-at high (e ∷ es) (x ∷ xs) zero s is below = by (runs-there x) refl
    where
      by : (b : Bool) → runs-there x ≡ b → ran_plans filed streams stream of high (beside (e ∷ es) (plans-of (x ∷ xs))) ≡ ran_plan filed streams stream of high (e, x.value) ∷ plans-of xs
      by true h = ran-there high e es x xs (omega (arith, s)) h
      by false h = let f = first-false runs-there x xs h in absurd (omega (arith, f, is))
  ran-at high (e ∷ es) (x ∷ xs) (suc at) s is below = by (runs-there x) refl (ran-at high es xs at)
    where
      by : (b : Bool) → runs-there x ≡ b
          → (length es ≡ length xs → at ≡ position_or_len runs-there xs → at < length xs
          → ran_plans filed streams stream of high (beside es (plans-of xs)) ≡ slice_set (plans-of xs) at (ran_plan filed streams stream of high (pair-at es xs at)))
          → ran_plans filed streams stream of high (beside (e ∷ es) (plans-of (x ∷ xs))) ≡ x.value ∷ slice_set (plans-of xs) at (ran_plan filed streams stream of high (pair-at es xs at))
      by true h inner = let f = first-true runs-there x xs h in absurd (omega (arith, f, is))
      by false h inner =
          let f = first-false runs-there x xs h in
          ran-later high e es x xs h ∙ ap (λ l. x.value ∷ l) (inner (omega (arith, s)) (omega (arith, f, is)) (omega (arith, below)))

  -- of a table
  module _ (t : Table Plan) (latest high : Option ℤ) (es : List Standing) (s : StandsFor t latest es) where
    abbrev pairs-of : List (Standing × Plan)
    pairs-of = beside es (values_of t)

    as-many : length es ≡ length t.entries.items
    as-many = sym (length-entries t latest es s)

    pub nothing-runs : (steps : List Step) → None ≡ position runs-there t.entries.items → running_packets filed streams stream of high steps pairs-of ≡ []
    nothing-runs steps h = ap (found_packets filed streams stream of high steps) (find-none es t.entries.items as-many (position-none runs-there t.entries.items h))

    pub plans-stay : None ≡ position runs-there t.entries.items → values_of t ≡ ran_plans filed streams stream of high pairs-of
    plans-stay h = sym (ran-none high es t.entries.items as-many (position-none runs-there t.entries.items h))

    module _ (at : ℕ) (is : Some at ≡ position runs-there t.entries.items) (below : at < length t.entries.items) (reached : Option ℕ)
        (how_far : (e : Standing) → e ≡ slice_index_or es at e → reached ≡ reached_by high e) where
      abbrev entry-at : Entry Plan
      entry-at = slice_index_or t.entries.items at no_entry

      abbrev found-pair : Standing × Plan
      found-pair = pair-at es t.entries.items at

      in-items : entry-at ≡ slice_index_or t.entries.items at entry-at
      in-items = get_or_default t.entries.items at no_entry entry-at below

      in-events : found-pair.0 ≡ slice_index_or es at found-pair.0
      in-events = let n = as-many in get_or_default es at no_standing found-pair.0 (omega (arith, n, below))

      event-is : entry-at.event ≡ on_ring found-pair.0
      event-is = event-there t latest es s at below

      value-is : entry-at.value ≡ found-pair.1
      value-is = sym (Rattle.std.proofs.Math.ListN.get_or-map (λ (x : Entry Plan). x.value) t.entries.items at no_entry)

      reached-is : reached ≡ reached_by high found-pair.0
      reached-is = how_far found-pair.0 in-events

      pub run-packets : (steps : List Step)
          → packets_in filed streams stream of entry-at.event (part_of entry-at.value stream).sent reached steps ≡ running_packets filed streams stream of high steps pairs-of
      run-packets steps =
          ap (λ r. packets_in filed streams stream of entry-at.event (part_of entry-at.value stream).sent r steps) reached-is
          ∙ ap (λ (e : Event). packets_in filed streams stream of e (part_of entry-at.value stream).sent (reached_by high found-pair.0) steps) event-is
          ∙ ap (λ (v : Plan). packets_in filed streams stream of (on_ring found-pair.0) (part_of v stream).sent (reached_by high found-pair.0) steps) value-is
          ∙ sym (ap (found_packets filed streams stream of high steps) (find-at es t.entries.items at as-many (position-some runs-there t.entries.items at is) below))

      put-is : part_put filed streams stream of reached Running entry-at ≡ ran_plan filed streams stream of high found-pair
      put-is =
          ap (λ r. part_put filed streams stream of r Running entry-at) reached-is
          ∙ ap (λ (e : Event). part_put filed streams stream of (reached_by high found-pair.0) Running (record { event = e; value = entry-at.value })) event-is
          ∙ ap (λ (v : Plan). part_put filed streams stream of (reached_by high found-pair.0) Running (record { event = on_ring found-pair.0; value = v })) value-is

      pub run-plans : slice_set (values_of t) at (part_put filed streams stream of reached Running entry-at) ≡ ran_plans filed streams stream of high pairs-of
      run-plans =
          ap (slice_set (values_of t) at) put-is ∙ sym (ran-at high es t.entries.items at as-many (position-some runs-there t.entries.items at is) below)
