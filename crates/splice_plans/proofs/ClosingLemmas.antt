-- The events that are to close in a stream, closed one by one in order of start.
use Rattle.std.proofs.Common.{◌≡◌, ℕ, zero, suc, ◌+◌, ◌%◌, ◌<◌, ◌≤◌, refl, sym, ap, ◌∙◌, subst, arith, append_assoc, List, [], ◌∷◌, ◌++◌, length, Bool, true, false, ◌&&◌, ⊎_elim}
use Rattle.std.specs.Prelude.{ℤ, ◌≤ℤ◌, ◌<ℤ◌, int_lt, Option, None, Some, slice_index_or, slice_set, map, filter}
use Rattle.std.specs.List.{list_any}
use Rattle.std.proofs.lemmas.Int.{ints}
use Rattle.std.proofs.lemmas.Bool.{true≢false, cases_lt}
use Rattle.std.proofs.lemmas.List.{append-nil, length-map}
use Rattle.psi_tables.specs.declared.stream.Stream.{Stream}
use Rattle.ts_packet.specs.Numbering.{Step}
use Rattle.unit_stream.specs.UnitPackets.{put_in}
use Rattle.outgoing_packets.specs.Numbers.{FrontFails}
use Rattle.event_table.specs.declared.event.Event.{Event}
use Rattle.event_table.specs.declared.table.Entry.{Entry}
use Rattle.event_table.specs.declared.table.Table.{Table}
use Rattle.event_table.specs.Standing.{Standing, on_ring, end_of, meets, IsWithin, IsInReach}
use Rattle.event_table.specs.Tables.{StandsFor, values_of}
use Rattle.event_table.proofs.TableLemmas.{length-entries}
use Rattle.armed_events.specs.declared.obeying.ArmedEvents.{ArmedEvents}
use Rattle.ad_library.specs.Advertisements.{Advertisement}
use Rattle.splice_plans.specs.declared.plan.Stage.TheVariants.{Over}
use Rattle.splice_plans.specs.declared.plan.Part.{Part}
use Rattle.splice_plans.specs.declared.plan.Plan.{Plan}
use Rattle.splice_plans.specs.Turning.{part_of, waiting}
use Rattle.splice_plans.specs.Parts.{no_entry, no_standing, beside, is_closing, closes_in, pairs_by_start, closing_pairs, KeepsEvents, IsFirstClosing, pair_packets, put_plan, part_put, packets_in, rest_packets, closed_plan}
use Rattle.splice_plans.proofs.SliceLemmas.{put_in-append}
use Rattle.splice_plans.proofs.TurnLemmas.{event-there, within-there}
use Rattle.splice_plans.proofs.SelectLemmas.{closes, IsLeastAt, least-out, one-fewer}

-- ---- an event that is over is not to close

is-over : (xs : List Part) (i : ℕ) (part : Part) → is_closing part.stage ≡ false → is_closing (slice_index_or (slice_set xs i part) i waiting).stage ≡ false
is-over [] i part h = refl
is-over (x ∷ xs) zero part h = h
is-over (x ∷ xs) (suc i) part h = is-over xs i part h

pub keeps-same : (events : ArmedEvents Plan) → KeepsEvents events events
keeps-same events = record { obeys = λ pid high past o. o; events = refl; high = refl; assembler = refl }

module _ (filed : ℕ → Option Advertisement) (streams : List Stream) (stream : ℕ) (of : Stream) where
  abbrev over-plan : Standing × Plan → Plan
  over-plan x = put_plan filed streams stream of None Over x

  over-closed : (x : Standing × Plan) → closes_in stream (over-plan x) ≡ false
  over-closed x = is-over x.1.parts (stream % 8) _ refl

  abbrev pair-there : List Standing → List Plan → ℕ → Standing × Plan
  pair-there es plans at = (slice_index_or es at no_standing, slice_index_or plans at no_entry.value)

  -- ---- the plans once all are closed

  plan-over : (x : Standing × Plan) → closes_in stream x.1 ≡ true → closed_plan filed streams stream of x ≡ over-plan x
  plan-over x h = rw h refl

  plan-stays : (x : Standing × Plan) → closes_in stream x.1 ≡ false → closed_plan filed streams stream of x ≡ x.1
  plan-stays x h = rw h refl

  closed-same : (es : List Standing) (plans : List Plan) (at : ℕ) → at < length plans → length es ≡ length plans → closes_in stream (slice_index_or plans at no_entry.value) ≡ true
      → map (closed_plan filed streams stream of) (beside es (slice_set plans at (over-plan (pair-there es plans at)))) ≡ map (closed_plan filed streams stream of) (beside es plans)
  closed-same [] [] at below same h = absurd (omega (arith, below))
  closed-same [] (p ∷ plans) at below same h = absurd (omega (arith, same))
  closed-same (e ∷ es) [] at below same h = absurd (omega (arith, below))
  closed-same (e ∷ es) (p ∷ plans) zero below same h =
      ap (λ v. v ∷ map (closed_plan filed streams stream of) (beside es plans))
      (plan-stays (e, over-plan (e, p)) (over-closed (e, p)) ∙ sym (plan-over (e, p) h))
  closed-same (e ∷ es) (p ∷ plans) (suc at) below same h =
      ap (λ l. closed_plan filed streams stream of (e, p) ∷ l) (closed-same es plans at (omega (arith, below)) (omega (arith, same)) h)

  -- where none is to close
  any-there : (p : Plan) (plans : List Plan) → closes_in stream p ≡ true → list_any (closes_in stream) (p ∷ plans) ≡ true
  any-there p plans h = rw h refl

  any-later : (p : Plan) (plans : List Plan) → closes_in stream p ≡ false → list_any (closes_in stream) (p ∷ plans) ≡ list_any (closes_in stream) plans
  any-later p plans h = rw h refl

  none-left : (es : List Standing) (plans : List Plan) → list_any (closes_in stream) plans ≡ false → filter (closes stream) (beside es plans) ≡ []
  none-left [] plans h = refl
  none-left (e ∷ es) [] h = refl
  none-left (e ∷ es) (p ∷ plans) h = by (closes_in stream p) refl (none-left es plans)
    where
      by : (b : Bool) → closes_in stream p ≡ b → (list_any (closes_in stream) plans ≡ false → filter (closes stream) (beside es plans) ≡ []) → filter (closes stream) (beside (e ∷ es) (p ∷ plans)) ≡ []
      by true k inner = absurd (true≢false (sym (any-there p plans k) ∙ h))
      by false k inner = rw k (inner (sym (any-later p plans k) ∙ h))

  few-none : (xs : List (Standing × Plan)) (n m : ℕ) → m ≤ n → n + length xs ≤ m → xs ≡ []
  few-none [] n m end h = refl
  few-none (x ∷ xs) n m end h = absurd (omega (arith, end, h))

  no-pairs : (xs : List (Standing × Plan)) → filter (closes stream) xs ≡ [] → closing_pairs stream xs ≡ []
  no-pairs xs h = ap pairs_by_start h

  filter-there : (e : Standing) (es : List Standing) (p : Plan) (plans : List Plan) → closes_in stream p ≡ true → filter (closes stream) (beside (e ∷ es) (p ∷ plans)) ≡ (e, p) ∷ filter (closes stream) (beside es plans)
  filter-there e es p plans h = rw h refl

  filter-later : (e : Standing) (es : List Standing) (p : Plan) (plans : List Plan) → closes_in stream p ≡ false → filter (closes stream) (beside (e ∷ es) (p ∷ plans)) ≡ filter (closes stream) (beside es plans)
  filter-later e es p plans h = rw h refl

  some-left : (x : Standing × Plan) (xs : List (Standing × Plan)) → x ∷ xs ≡ [] → ⊥
  some-left x xs h = let n = ap length h in omega (arith, n)

  plans-same : (es : List Standing) (plans : List Plan) → length es ≡ length plans → filter (closes stream) (beside es plans) ≡ [] → map (closed_plan filed streams stream of) (beside es plans) ≡ plans
  plans-same [] [] same h = refl
  plans-same [] (p ∷ plans) same h = absurd (omega (arith, same))
  plans-same (e ∷ es) [] same h = absurd (omega (arith, same))
  plans-same (e ∷ es) (p ∷ plans) same h = by (closes_in stream p) refl (plans-same es plans (omega (arith, same)))
    where
      by : (b : Bool) → closes_in stream p ≡ b → (filter (closes stream) (beside es plans) ≡ [] → map (closed_plan filed streams stream of) (beside es plans) ≡ plans)
          → map (closed_plan filed streams stream of) (beside (e ∷ es) (p ∷ plans)) ≡ p ∷ plans
      by true k inner = absurd (some-left _ _ (sym (filter-there e es p plans k) ∙ h))
      by false k inner = ap (λ v. v ∷ map (closed_plan filed streams stream of) (beside es plans)) (plan-stays (e, p) k) ∙ ap (λ l. p ∷ l) (inner (sym (filter-later e es p plans k) ∙ h))

  -- ---- the one that starts first starts before the others

  starts-differ : (high : ℤ) (a b : Standing) → IsInReach high a → IsInReach high b → meets a b ≡ false → a.start ≤ℤ b.start → a.start <ℤ b.start
  starts-differ high a b ra rb apart h =
      let some = ra.some in
      let other = rb.some in
      grind (arith, ints, some, other, apart, h)

  strictly : (latest : Option ℤ) (a b : Standing) → IsWithin latest a → IsWithin latest b → meets a b ≡ false → a.start ≤ℤ b.start → a.start <ℤ b.start
  strictly None a b wa wb apart h = absurd wa
  strictly (Some high) a b wa wb apart h = starts-differ high a b wa wb apart h

  meets-other : (a b : Standing) → meets b a ≡ false → meets a b ≡ false
  meets-other a b h = by (int_lt a.start (end_of b)) (int_lt b.start (end_of a)) h
    where
      by : (x y : Bool) → (y && x) ≡ false → (x && y) ≡ false
      by true true k = k
      by true false k = refl
      by false y k = refl

  apart-there : (latest : Option ℤ) (t : Table Plan) (es : List Standing) → StandsFor t latest es → (at other : ℕ) → at < length es → other < length es → (other ≡ at → ⊥)
      → meets (slice_index_or es at no_standing) (slice_index_or es other no_standing) ≡ false
  apart-there latest t es s at other here there differ =
      ⊎_elim (λ before. meets-other (slice_index_or es at no_standing) (slice_index_or es other no_standing) ((s.apart other at no_standing before here).times))
      (λ le. (s.apart at other no_standing (behind le) there).times)
      (cases_lt other at)
    where
      behind : at ≤ other → at < other
      behind le = ⊎_elim (λ lt. lt) (λ ge. absurd (differ (omega (arith, le, ge)))) (cases_lt at other)

  is-least : (t : Table Plan) (latest : Option ℤ) (es : List Standing) → StandsFor t latest es → (at : ℕ) → IsFirstClosing stream es (values_of t) at → IsLeastAt stream es (values_of t) at
  is-least t latest es s at i =
      let n = length-entries t latest es s in
      let values = length-map t.entries.items (λ (x : Entry Plan). x.value) in
      let b = i.below in
      record {
        below = i.below;
        same = omega (arith, n, values);
        closes_there = i.closes;
        others = λ other l differ c.
            strictly latest _ _ (within-there t latest es s at (omega (arith, b, values))) (within-there t latest es s other (omega (arith, l, values)))
            (apart-there latest t es s at other (omega (arith, b, n, values)) (omega (arith, l, n, values)) differ) (i.first other l c);
      }

  -- ---- one more is closed

  abbrev rest : List Step → List Standing → List Plan → List (List ℕ)
  rest steps es plans = rest_packets filed streams stream of steps (closing_pairs stream (beside es plans))

  pub record ClosedSoFar (old now : Table Plan) (C D : List Step → Type 0) (H K : Option (List ℕ) → List (List ℕ) → Type 0) (turn end : ℕ) (es : List Standing) : Type 0 where
    pub planned : map (closed_plan filed streams stream of) (beside es (values_of now)) ≡ map (closed_plan filed streams stream of) (beside es (values_of old))
    pub few : turn + length (filter (closes stream) (beside es (values_of now))) ≤ end
    pub put : (steps : List Step) → (done : List (List ℕ)) × (rest steps es (values_of old) ≡ done ++ rest (put_in done steps) es (values_of now))
        × (C steps → D (put_in done steps)) × ((begin : Option (List ℕ)) (ps : List (List ℕ)) → H begin ps → C steps → K begin (ps ++ done))

  few-filtered : (xs : List (Standing × Plan)) → length (filter (closes stream) xs) ≤ length xs
  few-filtered [] = omega arith
  few-filtered (x ∷ xs) = by (closes_in stream x.1) refl (few-filtered xs)
    where
      by : (b : Bool) → closes_in stream x.1 ≡ b → length (filter (closes stream) xs) ≤ length xs → length (filter (closes stream) (x ∷ xs)) ≤ length (x ∷ xs)
      by true k l = rw k (omega (arith, l))
      by false k l = rw k (omega (arith, l))

  few-beside : (es : List Standing) (plans : List Plan) → length (beside es plans) ≤ length es
  few-beside [] plans = omega arith
  few-beside (e ∷ es) [] = omega arith
  few-beside (e ∷ es) (p ∷ plans) = let l = few-beside es plans in omega (arith, l)

  pub nothing-closed : (t : Table Plan) (C : List Step → Type 0) (H : Option (List ℕ) → List (List ℕ) → Type 0) (end : ℕ) (latest : Option ℤ) (es : List Standing) → StandsFor t latest es → end ≡ length t.entries.items
      → ClosedSoFar t t C C H H 0 end es
  nothing-closed t C H end latest es s is =
      let n = length-entries t latest es s in
      let a = few-filtered (beside es (values_of t)) in
      let b = few-beside es (values_of t) in
      record {
        planned = refl;
        few = omega (arith, n, a, b, is);
        put = λ steps. ([], refl, λ k. k, λ begin ps h k. rw (append-nil ps) h);
      }

  -- nothing is left to close
  module _ (old now : Table Plan) (C D : List Step → Type 0) (H K : Option (List ℕ) → List (List ℕ) → Type 0) (turn end : ℕ) (es : List Standing) (i : ClosedSoFar old now C D H K turn end es)
      (over : filter (closes stream) (beside es (values_of now)) ≡ []) where
    all-done : (steps : List Step) → rest steps es (values_of old) ≡ (i.put steps).0
    all-done steps =
        (i.put steps).1 ∙ ap (λ xs. (i.put steps).0 ++ rest_packets filed streams stream of (put_in (i.put steps).0 steps) xs) (no-pairs (beside es (values_of now)) over)
        ∙ append-nil (i.put steps).0

    pub closed-holds : (steps : List Step) (begin : Option (List ℕ)) (ps : List (List ℕ)) → H begin ps → C steps → K begin (ps ++ rest steps es (values_of old))
    closed-holds steps begin ps h k = subst (λ qs. K begin (ps ++ qs)) (sym (all-done steps)) ((i.put steps).3 begin ps h k)

    pub closed-counts : (steps : List Step) → C steps → D (put_in (rest steps es (values_of old)) steps)
    closed-counts steps k = subst (λ qs. D (put_in qs steps)) (sym (all-done steps)) ((i.put steps).2 k)

    pub closed-plans : length es ≡ length (values_of now) → values_of now ≡ map (closed_plan filed streams stream of) (beside es (values_of old))
    closed-plans same = sym (plans-same es (values_of now) same over) ∙ i.planned

  pub none-over : (now : Table Plan) (es : List Standing) → list_any (closes_in stream) (values_of now) ≡ false → filter (closes stream) (beside es (values_of now)) ≡ []
  none-over now es h = none-left es (values_of now) h

  pub all-over : (old now : Table Plan) (C D : List Step → Type 0) (H K : Option (List ℕ) → List (List ℕ) → Type 0) (turn end : ℕ) (es : List Standing) → ClosedSoFar old now C D H K turn end es → end ≤ turn
      → filter (closes stream) (beside es (values_of now)) ≡ []
  all-over old now C D H K turn end es i at_end = few-none (filter (closes stream) (beside es (values_of now))) turn end at_end i.few

  pub as-many-values : (t : Table Plan) (latest : Option ℤ) (es : List Standing) → StandsFor t latest es → length es ≡ length (values_of t)
  as-many-values t latest es s = sym (length-map t.entries.items (λ (x : Entry Plan). x.value) ∙ length-entries t latest es s)

  -- the next one
  module _ (old now : Table Plan) (C D : List Step → Type 0) (H K : Option (List ℕ) → List (List ℕ) → Type 0) (turn end : ℕ) (latest : Option ℤ) (es : List Standing) (s : StandsFor now latest es)
      (i : ClosedSoFar old now C D H K turn end es) (at : ℕ) (first : IsFirstClosing stream es (values_of now) at) where
    abbrev x : Standing × Plan
    x = pair-there es (values_of now) at

    abbrev entry-there : Entry Plan
    entry-there = slice_index_or now.entries.items at no_entry

    abbrev plans-now : List Plan
    plans-now = slice_set (values_of now) at (over-plan x)

    least : IsLeastAt stream es (values_of now) at
    least = is-least now latest es s at first

    in-table : at < length now.entries.items
    in-table = let b = first.below in let values = length-map now.entries.items (λ (x : Entry Plan). x.value) in omega (arith, b, values)

    event-is : entry-there.event ≡ on_ring x.0
    event-is = event-there now latest es s at in-table

    value-is : entry-there.value ≡ x.1
    value-is = sym (Rattle.std.proofs.Math.ListN.get_or-map (λ (y : Entry Plan). y.value) now.entries.items at no_entry)

    packets-are : (steps : List Step) → packets_in filed streams stream of entry-there.event (part_of entry-there.value stream).sent None steps ≡ pair_packets filed streams stream of None steps x
    packets-are steps =
        ap (λ (e : Event). packets_in filed streams stream of e (part_of entry-there.value stream).sent None steps) event-is
        ∙ ap (λ (v : Plan). packets_in filed streams stream of (on_ring x.0) (part_of v stream).sent None steps) value-is

    plan-is : part_put filed streams stream of None Over entry-there ≡ over-plan x
    plan-is =
        ap (λ (e : Event). part_put filed streams stream of None Over (record { event = e; value = entry-there.value })) event-is
        ∙ ap (λ (v : Plan). part_put filed streams stream of None Over (record { event = on_ring x.0; value = v })) value-is

    -- what is left begins with it
    rest-is : (steps : List Step) → rest steps es (values_of now) ≡ pair_packets filed streams stream of None steps x ++ rest (put_in (pair_packets filed streams stream of None steps x) steps) es plans-now
    rest-is steps = ap (rest_packets filed streams stream of steps) (least-out stream es (values_of now) at (over-plan x) least (over-closed x))

    all-is : (steps : List Step) → rest steps es (values_of old)
        ≡ (i.put steps).0 ++ (pair_packets filed streams stream of None (put_in (i.put steps).0 steps) x ++ rest (put_in (pair_packets filed streams stream of None (put_in (i.put steps).0 steps) x) (put_in (i.put steps).0 steps)) es plans-now)
    all-is steps = (i.put steps).1 ∙ ap (λ l. (i.put steps).0 ++ l) (rest-is (put_in (i.put steps).0 steps))

    pub one-closed : (new : Table Plan) (E : List Step → Type 0) (L : Option (List ℕ) → List (List ℕ) → Type 0)
        → values_of new ≡ slice_set (values_of now) at (part_put filed streams stream of None Over entry-there)
        → ((steps : List Step) → D steps → E (put_in (packets_in filed streams stream of entry-there.event (part_of entry-there.value stream).sent None steps) steps))
        → ((begin : Option (List ℕ)) (ps : List (List ℕ)) (steps : List Step) → K begin ps → D steps → L begin (ps ++ packets_in filed streams stream of entry-there.event (part_of entry-there.value stream).sent None steps))
        → ClosedSoFar old new C E H L (turn + 1) end es
    one-closed new E L values counted holds =
        let is : values_of new ≡ plans-now = values ∙ ap (slice_set (values_of now) at) plan-is in
        let fewer = one-fewer stream es (values_of now) at (over-plan x) least (over-closed x) in
        let few = i.few in
        record {
          planned = ap (λ vs. map (closed_plan filed streams stream of) (beside es vs)) is
              ∙ closed-same es (values_of now) at first.below least.same first.closes ∙ i.planned;
          few = rw is (omega (arith, fewer, few));
          put = λ steps.
              let done = (i.put steps).0 in
              let behind = put_in done steps in
              let more = pair_packets filed streams stream of None behind x in (
                done ++ more,
                all-is steps ∙ sym (append_assoc done more (rest (put_in more behind) es plans-now))
                    ∙ ap (λ st. (done ++ more) ++ rest st es plans-now) (sym (put_in-append done more steps))
                    ∙ ap (λ vs. (done ++ more) ++ rest (put_in (done ++ more) steps) es vs) (sym is),
                λ k. subst E (sym (put_in-append done more steps)) (subst (λ qs. E (put_in qs behind)) (packets-are behind) (counted behind ((i.put steps).2 k))),
                λ begin ps h k. subst (λ l. L begin l) (append_assoc ps done more)
                    (subst (λ qs. L begin ((ps ++ done) ++ qs)) (packets-are behind) (holds begin (ps ++ done) behind ((i.put steps).3 begin ps h k) ((i.put steps).2 k))),
              );
        }

    -- where that fails
    pub one-fails : (F : List (List ℕ) → List (List ℕ) → List ℕ → Type 0) (steps : List Step) (begin : Option (List ℕ)) (ps : List (List ℕ)) → H begin ps → C steps
        → ((qs : List (List ℕ)) (st : List Step) → K begin qs → D st
        → FrontFails (packets_in filed streams stream of entry-there.event (part_of entry-there.value stream).sent None st) (λ put p. F qs put p))
        → ((put : List (List ℕ)) (p : List ℕ) → F (ps ++ (i.put steps).0) put p → F ps ((i.put steps).0 ++ put) p)
        → FrontFails (rest steps es (values_of old)) (λ put p. F ps put p)
    one-fails F steps begin ps h k fails moved =
        let done = (i.put steps).0 in
        let behind = put_in done steps in
        let more = pair_packets filed streams stream of None behind x in
        let later = rest (put_in more behind) es plans-now in
        let f = fails (ps ++ done) behind ((i.put steps).3 begin ps h k) ((i.put steps).2 k) in
        record {
          put = done ++ f.put;
          packet = f.packet;
          left = f.left ++ later;
          all = all-is steps ∙ ap (λ l. done ++ (l ++ later)) (sym (packets-are behind) ∙ f.all)
              ∙ ap (λ l. done ++ l) (append_assoc f.put (f.packet ∷ f.left) later) ∙ sym (append_assoc done f.put (f.packet ∷ (f.left ++ later)));
          fault = moved f.put f.packet f.fault;
        }
