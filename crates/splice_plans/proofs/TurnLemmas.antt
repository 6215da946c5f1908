-- What the ring says of an event and a unit of a stream, and of events that start one before the other.
use Rattle.std.proofs.Common.{◌≡◌, ℕ, ◌+◌, ◌^◌, ◌<◌, ◌≤◌, suc, add-one, ◌⊎◌, inl, inr, ⊎_elim, sym, ap, ◌∙◌, refl, arith, subst, List, [], ◌∷◌, length, Bool, true, false, ◌&&◌, if◌then◌else◌}
use Rattle.std.specs.Prelude.{ℤ, pos, ◌+ℤ◌, ◌≤ℤ◌, int_lt, Option, None, Some, IfSome, slice_index_or, map}
use Rattle.std.specs.List.{list_any}
use Rattle.std.proofs.lemmas.Int.{ints}
use Rattle.std.proofs.lemmas.Bool.{true≢false, cases_lt}
use Rattle.std.proofs.lemmas.List.{get_or-map, length-map}
use Rattle.pes_time.specs.Line.{ring_of, lift, place, Near}
use Rattle.pes_time.proofs.LineLemmas.{ring-lift}
use Rattle.event_table.specs.declared.event.Event.{Event}
use Rattle.event_table.specs.declared.table.Entry.{Entry}
use Rattle.event_table.specs.declared.table.Table.{Table}
use Rattle.event_table.specs.Rings.{is_before_on_ring}
use Rattle.event_table.specs.Events.{ring_end}
use Rattle.event_table.specs.Standing.{Standing, on_ring, end_of, IsWithin, IsInReach}
use Rattle.event_table.specs.Tables.{StandsFor, values_of}
use Rattle.event_table.proofs.TimeLemmas.{before-near, before-window}
use Rattle.event_table.proofs.EventLemmas.{ring_end-on_ring, start-window}
use Rattle.event_table.proofs.TableLemmas.{length-entries}
use Rattle.armed_laws.proofs.MeetLemmas.{same-low}
use Rattle.pes_time.proofs.IntLemmas.{ge-test}
use Rattle.splice_plans.specs.declared.plan.Stage.{Stage}
use Rattle.splice_plans.specs.declared.plan.Stage.TheVariants.{Closing, Over}
use Rattle.splice_plans.specs.declared.plan.Plan.{Plan}
use Rattle.splice_plans.specs.Turning.{IsNearHigh, crosses}
use Rattle.splice_plans.specs.Parts.{closes_in, closes_at, no_entry, no_standing, starts_first, sooner, IsFirstClosing}

near-end : (h t : ℤ) (e : Standing) → IsInReach h e → h ≤ℤ (t +ℤ pos 900000) → t ≤ℤ (h +ℤ pos 900000) → Near t (end_of e)
near-end h t e reach low top =
    let some = reach.some in
    let shortened = reach.shortened in
    let most = reach.most in
    let start = reach.start in
    let stands = reach.stands in
    record { above = omega (arith, ints); below = omega (arith, ints) }

-- a unit below the end of an event
pub before-end : (latest : Option ℤ) (e : Standing) (event : Event) (p : ℕ) → p < 2 ^ 33 → event ≡ on_ring e → IsWithin latest e → IsNearHigh latest (place latest p)
    → is_before_on_ring p (ring_end event) ≡ int_lt (place latest p) (end_of e)
before-end None e event p fits is within near = absurd within
before-end (Some h) e event p fits is within near =
    ap (λ (x : Event). is_before_on_ring p (ring_end x)) is ∙ ap (is_before_on_ring p) (ring_end-on_ring e) ∙ ap (λ q. is_before_on_ring q (ring_of (end_of e))) (sym (ring-lift h p fits))
    ∙ before-near (lift h p) (end_of e) (near-end h (lift h p) e within near.0 near.1)

pub closed-crosses : (e : Standing) (t : ℤ) (stage : Stage) → (stage ≡ Closing) ⊎ (stage ≡ Over) → int_lt t (end_of e) ≡ crosses e t stage
closed-crosses e t stage (inl is) = ap (crosses e t) (sym is)
closed-crosses e t stage (inr is) = ap (crosses e t) (sym is)

-- ---- the one that starts first

pub event-there : (t : Table Plan) (latest : Option ℤ) (es : List Standing) → StandsFor t latest es → (at : ℕ) → at < length t.entries.items
    → (slice_index_or t.entries.items at no_entry).event ≡ on_ring (slice_index_or es at no_standing)
event-there t latest es s at below =
    let size = length-entries t latest es s in
    sym (get_or-map (λ (x : Entry Plan). x.event) t.entries.items at no_entry no_entry.event below) ∙ ap (λ xs. slice_index_or xs at no_entry.event) s.events
    ∙ get_or-map on_ring es at no_standing no_entry.event (omega (arith, size, below))

pub within-there : (t : Table Plan) (latest : Option ℤ) (es : List Standing) → StandsFor t latest es → (at : ℕ) → at < length t.entries.items → IsWithin latest (slice_index_or es at no_standing)
within-there t latest es s at below = let size = length-entries t latest es s in s.within at no_standing (omega (arith, size, below))

starts-line : (latest : Option ℤ) (a b : Standing) → IsWithin latest a → IsWithin latest b → is_before_on_ring (ring_of a.start) (ring_of b.start) ≡ int_lt a.start b.start
starts-line None a b wa wb = absurd wa
starts-line (Some h) a b wa wb = before-window h a.start b.start (start-window h a wa) (start-window h b wb)

starts-there : (t : Table Plan) (latest : Option ℤ) (es : List Standing) → StandsFor t latest es → (at other : ℕ) → at < length t.entries.items → other < length t.entries.items
    → starts_first t.entries.items at (Some other) ≡ int_lt (slice_index_or es at no_standing).start (slice_index_or es other no_standing).start
starts-there t latest es s at other below below' =
    ap (λ (x : Event). is_before_on_ring x.start (slice_index_or t.entries.items other no_entry).event.start) (event-there t latest es s at below)
    ∙ ap (λ (x : Event). is_before_on_ring (ring_of (slice_index_or es at no_standing).start) x.start) (event-there t latest es s other below')
    ∙ starts-line latest (slice_index_or es at no_standing) (slice_index_or es other no_standing) (within-there t latest es s at below) (within-there t latest es s other below')

abbrev IsLeast : Table Plan → ℕ → ℕ → List Standing → ℕ → Type 0
IsLeast t stream to es at = (other : ℕ) → other < to → closes_at stream t.entries.items other ≡ true → (slice_index_or es at no_standing).start ≤ℤ (slice_index_or es other no_standing).start

pub record FirstUpTo (t : Table Plan) (stream to : ℕ) (first : Option ℕ) : Type 0 where
  pub below : IfSome first (λ at. at < length t.entries.items)
  pub none : first ≡ None → (other : ℕ) → other < to → closes_at stream t.entries.items other ≡ false
  pub closes : IfSome first (λ at. closes_at stream t.entries.items at ≡ true)
  pub least : (latest : Option ℤ) (es : List Standing) → StandsFor t latest es → IfSome first (λ at. IsLeast t stream to es at)

pub nothing-yet : (t : Table Plan) (stream : ℕ) → FirstUpTo t stream 0 None
nothing-yet t stream = record { below = tt; none = λ h other l. absurd (omega (arith, l)); closes = tt; least = λ latest es s. tt }

sooner-case : (c s : Bool) (at : ℕ) (first : Option ℕ) (Q : Option ℕ → Type 0) → (c ≡ true → s ≡ true → Q (Some at)) → ((c && s) ≡ false → Q first) → Q (if c && s then Some at else first)
sooner-case true true at first Q y n = y refl refl
sooner-case true false at first Q y n = n refl
sooner-case false s at first Q y n = n refl

up-to : (other at : ℕ) {X : Type 0} → other < at + 1 → (other < at → X) → (other ≡ at → X) → X
up-to other at h before here = ⊎_elim before (λ le. here (omega (arith, h, le))) (cases_lt other at)

not-both : (c : Bool) → (c && true) ≡ false → c ≡ false
not-both true h = absurd (true≢false h)
not-both false h = refl

second-not : (c s : Bool) → c ≡ true → (c && s) ≡ false → s ≡ false
second-not true s h k = k
second-not false s h k = absurd (true≢false (sym h))

lower : (a b c : ℤ) → int_lt a b ≡ true → b ≤ℤ c → a ≤ℤ c
lower a b c h k = grind (arith, ints, h, k)

module _ (t : Table Plan) (stream at : ℕ) where
  abbrev entries : List (Entry Plan)
  entries = t.entries.items

  now-none : (first : Option ℕ) → FirstUpTo t stream at first → (closes_at stream entries at && starts_first entries at first) ≡ false → first ≡ None
      → (other : ℕ) → other < at + 1 → closes_at stream entries other ≡ false
  now-none None f n is other l = up-to other at l (f.none refl other) (λ same. rw same (not-both (closes_at stream entries at) n))
  now-none (Some x) f n is other l = absurd (cc)

  now-least : (first : Option ℕ) → FirstUpTo t stream at first → at < length entries → starts_first entries at first ≡ true → (latest : Option ℤ) (es : List Standing) → StandsFor t latest es → IsLeast t stream (at + 1) es at
  now-least None f below starts latest es s other l closes =
      up-to other at l (λ lt. absurd (true≢false (sym closes ∙ f.none refl other lt))) (λ same. rw same (same-low (slice_index_or es at no_standing).start))
  now-least (Some x) f below starts latest es s other l closes =
      up-to other at l
      (λ lt. lower _ _ _ (sym (starts-there t latest es s at x below f.below) ∙ starts) (f.least latest es s other lt closes))
      (λ same. rw same (same-low (slice_index_or es at no_standing).start))

  still-least : (first : Option ℕ) → FirstUpTo t stream at first → at < length entries → (closes_at stream entries at && starts_first entries at first) ≡ false
      → (latest : Option ℤ) (es : List Standing) → StandsFor t latest es → IfSome first (λ x. IsLeast t stream (at + 1) es x)
  still-least None f below n latest es s = tt
  still-least (Some x) f below n latest es s = λ other l closes. up-to other at l
      (λ lt. f.least latest es s other lt closes)
      (λ same.
      let here : closes_at stream entries at ≡ true = subst (λ o. closes_at stream entries o ≡ true) same closes in
      rw same (ge-test _ _ (sym (starts-there t latest es s at x below f.below) ∙ second-not (closes_at stream entries at) (starts_first entries at (Some x)) here n)))

  pub one-more-first : (first : Option ℕ) → FirstUpTo t stream at first → at < length entries → FirstUpTo t stream (at + 1) (sooner entries stream at first)
  one-more-first first f below =
      sooner-case (closes_at stream entries at) (starts_first entries at first) at first (λ x. FirstUpTo t stream (at + 1) x)
      (λ c s. record { below = below; none = λ h. absurd (cc); closes = c; least = now-least first f below s })
      (λ n. record { below = f.below; none = now-none first f n; closes = f.closes; least = still-least first f below n })

-- ---- of all of them

pub values-there : (t : Table Plan) (stream at : ℕ) → closes_in stream (slice_index_or (values_of t) at no_entry.value) ≡ closes_at stream t.entries.items at
values-there t stream at = ap (closes_in stream) (value-at t.entries.items at)
  where
    value-at : (xs : List (Entry Plan)) (i : ℕ) → slice_index_or (map (λ (x : Entry Plan). x.value) xs) i no_entry.value ≡ (slice_index_or xs i no_entry).value
    value-at xs i = Rattle.std.proofs.Math.ListN.get_or-map (λ (x : Entry Plan). x.value) xs i no_entry

pub any-none : {X : Type 0} (test : X → Bool) (xs : List X) (d : X) → ((i : ℕ) → i < length xs → test (slice_index_or xs i d) ≡ false) → list_any test xs ≡ false
any-none test [] d h = refl
any-none test (x ∷ xs) d h = rw (h 0 (omega arith)) (any-none test xs d (λ i l. later i (h (i + 1) (omega (arith, l)))))
  where
    later : (i : ℕ) → test (slice_index_or (x ∷ xs) (i + 1) d) ≡ false → test (slice_index_or xs i d) ≡ false
    later i k = let e : i + 1 ≡ suc i = add-one i in subst (λ n. test (slice_index_or (x ∷ xs) n d) ≡ false) e k

values-size : (t : Table Plan) → length (values_of t) ≡ length t.entries.items
values-size t = length-map t.entries.items (λ (x : Entry Plan). x.value)

module _ (t : Table Plan) (stream to : ℕ) (first : Option ℕ) (f : FirstUpTo t stream to first) (all : length t.entries.items ≤ to) where
  pub none-closes : first ≡ None → list_any (closes_in stream) (values_of t) ≡ false
  none-closes h =
      let size = values-size t in
      any-none (closes_in stream) (values_of t) no_entry.value (λ i l. values-there t stream i ∙ f.none h i (omega (arith, l, size, all)))

  pub first-of-all : (latest : Option ℤ) (es : List Standing) → StandsFor t latest es → IfSome first (λ at. IsFirstClosing stream es (values_of t) at)
  first-of-all latest es s = by first f.below f.closes (f.least latest es s)
    where
      by : (o : Option ℕ) → IfSome o (λ at. at < length t.entries.items) → IfSome o (λ at. closes_at stream t.entries.items at ≡ true) → IfSome o (λ at. IsLeast t stream to es at)
          → IfSome o (λ at. IsFirstClosing stream es (values_of t) at)
      by None b c l = tt
      by (Some at) b c l =
          let size = values-size t in
          record {
            below = omega (arith, b, size);
            closes = values-there t stream at ∙ c;
            first = λ other lt closes. l other (omega (arith, lt, size, all)) (sym (values-there t stream other) ∙ closes);
          }
