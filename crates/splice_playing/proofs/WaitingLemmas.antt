-- Where all events that stand wait in all streams, nothing closes and nothing runs; and a unit before their starts begins none.
use Rattle.std.proofs.Common.{◌≡◌, ℕ, zero, suc, ◌+◌, ◌%◌, ◌==◌, List, [], ◌∷◌, ◌++◌, length, map, Bool, true, false, not, ◌&&◌, ◌||◌, if◌then◌else◌, refl, sym, ap, subst, ◌∙◌, ◌<◌, ◌^◌, arith, Option, None, Some}
use Rattle.std.specs.Prelude.{ℤ, int_lt, slice_index_or, filter, find, count_by, All, option_map, replicate}
use Rattle.std.specs.List.{list_all, list_any}
use Rattle.std.proofs.lemmas.Int.{ints}
use Rattle.std.proofs.lemmas.Bool.{and_parts, or_parts, true≢false}
use Rattle.std.proofs.lemmas.List.{length-map}
use Rattle.ts_packet.specs.Numbering.{Step}
use Rattle.pes_time.specs.Line.{place, ring_of}
use Rattle.psi_tables.specs.declared.stream.Stream.{Stream}
use Rattle.event_table.specs.declared.table.Entry.{Entry}
use Rattle.event_table.specs.declared.table.Table.{Table}
use Rattle.event_table.specs.declared.event.Event.{Event}
use Rattle.event_table.specs.Events.{ring_end}
use Rattle.event_table.specs.Rings.{CanAdvance, is_before_on_ring}
use Rattle.event_table.specs.Standing.{Standing, on_ring, IsTimeAt, IsWithin, forgotten_at, still_standing, covers}
use Rattle.event_table.specs.Tables.{StandsFor, high_time_of, values_of}
use Rattle.event_table.proofs.TableLemmas.{length-entries, kept-within}
use Rattle.armed_events.specs.Valuing.{AddsOnly}
use Rattle.ad_library.specs.Advertisements.{Advertisement}
use Rattle.splice_plans.specs.declared.plan.Part.{Part}
use Rattle.splice_plans.specs.declared.plan.Plan.{Plan}
use Rattle.splice_plans.specs.Playing.{Adverts, is_played}
use Rattle.splice_plans.specs.Turning.{waiting, part_of}
use Rattle.splice_plans.specs.Parts.{is_waiting, is_running, is_closing, all_turned, beside, closes_in, closing_pairs, closed_plan, runs_in, running_packets, ran_plans}
use Rattle.splice_plans.specs.Waiting.{waits_in_all, runs_in_any}
use Rattle.splice_plans.specs.Adverts.{adverts_of}
use Rattle.splice_plans.specs.Fronts.{closing_packets, closed_plans, all_running, running_of, all_ran, is_left}
use Rattle.event_table.specs.Counting.{one_if}
use Rattle.splice_plans.specs.Reporting.{EventCounts, with_counted, is_out_at, is_not_fitted}
use Rattle.known_laws.proofs.CountLemmas.{count-cons}
use Rattle.splice_plans.proofs.WaitLemmas.{stage-waits, plan-stays}
use Rattle.splice_playing.specs.Resting.{all_wait, all_start_past, all_start_behind, is_left_at_rest, is_idle, none_run, is_kept_at, keeps_all, all_kept}
use Rattle.splice_playing.proofs.FrontLemmas.{all-later, first-same, later-same}

-- as many events as plans
pub as-many-plans : (table : Table Plan) (latest : Option ℤ) (es : List Standing) → StandsFor table latest es → length es ≡ length (values_of table)
as-many-plans table latest es s = sym (length-map table.entries.items (λ (x : Entry Plan). x.value) ∙ length-entries table latest es s)

-- ---- one plan

wait-parts : (plan : Plan) (plans : List Plan) → all_wait (plan ∷ plans) ≡ true → (waits_in_all plan ≡ true) × (all_wait plans ≡ true)
wait-parts plan plans h = and_parts (waits_in_all plan) (all_wait plans) h

part-waits : (parts : List Part) (i : ℕ) → list_all (λ (part : Part). is_waiting part.stage) parts ≡ true → is_waiting (slice_index_or parts i waiting).stage ≡ true
part-waits [] i h = refl
part-waits (x ∷ xs) zero h = (and_parts (is_waiting x.stage) (list_all (λ (part : Part). is_waiting part.stage) xs) h).0
part-waits (x ∷ xs) (suc i) h = part-waits xs i (and_parts (is_waiting x.stage) (list_all (λ (part : Part). is_waiting part.stage) xs) h).1

pub waits-there : (plan : Plan) (stream : ℕ) → waits_in_all plan ≡ true → is_waiting (part_of plan stream).stage ≡ true
waits-there plan stream h = part-waits plan.parts (stream % 8) h

pub not-so : (b : Bool) → not b ≡ true → b ≡ false
not-so true h = absurd (true≢false (sym h))
not-so false h = refl

part-runs-not : (parts : List Part) (i : ℕ) → list_any (λ (part : Part). is_running part.stage) parts ≡ false → is_running (slice_index_or parts i waiting).stage ≡ false
part-runs-not [] i h = refl
part-runs-not (x ∷ xs) zero h = (or_parts (is_running x.stage) (list_any (λ (part : Part). is_running part.stage) xs) h).0
part-runs-not (x ∷ xs) (suc i) h = part-runs-not xs i (or_parts (is_running x.stage) (list_any (λ (part : Part). is_running part.stage) xs) h).1

runs-not : (plan : Plan) (stream : ℕ) → not (runs_in_any plan) ≡ true → is_running (part_of plan stream).stage ≡ false
runs-not plan stream h = part-runs-not plan.parts (stream % 8) (not-so (runs_in_any plan) h)

-- one that waits in all streams runs in none
parts-wait : (parts : List Part) → list_all (λ (part : Part). is_waiting part.stage) parts ≡ true → list_any (λ (part : Part). is_running part.stage) parts ≡ false
parts-wait [] h = refl
parts-wait (x ∷ xs) h =
    let parts = and_parts (is_waiting x.stage) (list_all (λ (part : Part). is_waiting part.stage) xs) h in
    ap (λ b. b || list_any (λ (part : Part). is_running part.stage) xs) (ap is_running (stage-waits x.stage parts.0)) ∙ parts-wait xs parts.1

pub none-run-waiting : (plans : List Plan) → all_wait plans ≡ true → none_run plans ≡ true
none-run-waiting [] h = refl
none-run-waiting (plan ∷ plans) h =
    let parts = wait-parts plan plans h in
    ap (λ b. not b && none_run plans) (parts-wait plan.parts parts.0) ∙ none-run-waiting plans parts.1

none-run-there : (xs : List (Entry Plan)) → list_any (λ (x : Entry Plan). runs_in_any x.value) xs ≡ false → none_run (map (λ (x : Entry Plan). x.value) xs) ≡ true
none-run-there [] h = refl
none-run-there (x ∷ xs) h =
    let parts = or_parts (runs_in_any x.value) (list_any (λ (y : Entry Plan). runs_in_any y.value) xs) h in
    ap (λ b. not b && none_run (map (λ (y : Entry Plan). y.value) xs)) parts.0 ∙ none-run-there xs parts.1

-- where it is said that none runs
pub none-run-idle : (runs : Bool) (table : Table Plan) → runs ≡ false → is_idle runs table ≡ true → none_run (values_of table) ≡ true
none-run-idle runs table is idle =
    none-run-there table.entries.items (not-so (list_any (λ (x : Entry Plan). runs_in_any x.value) table.entries.items) (subst (λ b. is_idle b table ≡ true) is idle))

pub idle-there : (table seen : Table Plan) (runs : Bool) → runs ≡ list_any (λ (x : Entry Plan). runs_in_any x.value) seen.entries.items → seen ≡ table → is_idle runs table ≡ true
idle-there table seen runs is same =
    ap (λ b. is_idle b table) (is ∙ ap (λ (t : Table Plan). list_any (λ (x : Entry Plan). runs_in_any x.value) t.entries.items) same)
    ∙ by (list_any (λ (x : Entry Plan). runs_in_any x.value) table.entries.items)
  where
    by : (b : Bool) → (b || not b) ≡ true
    by true = refl
    by false = refl

any-value : (xs : List (Entry Plan)) → list_any (λ (x : Entry Plan). runs_in_any x.value) xs ≡ list_any runs_in_any (map (λ (x : Entry Plan). x.value) xs)
any-value [] = refl
any-value (x ∷ xs) = ap (λ b. runs_in_any x.value || b) (any-value xs)

none-more-runs : (fresh : Plan) (n : ℕ) → runs_in_any fresh ≡ false → list_any runs_in_any (replicate n fresh) ≡ false
none-more-runs fresh zero h = refl
none-more-runs fresh (suc n) h = ap (λ b. b || list_any runs_in_any (replicate n fresh)) h ∙ none-more-runs fresh n h

none-behind : (before more : List Plan) → list_any runs_in_any before ≡ false → list_any runs_in_any more ≡ false → list_any runs_in_any (before ++ more) ≡ false
none-behind [] more h k = k
none-behind (plan ∷ before) more h k =
    let parts = or_parts (runs_in_any plan) (list_any runs_in_any before) h in
    ap (λ b. b || list_any runs_in_any (before ++ more)) parts.0 ∙ none-behind before more parts.1 k

-- with events more that run in no stream
pub idle-fed : (old new : Table Plan) (runs : Bool) (fresh : Plan) → AddsOnly fresh (values_of old) (values_of new) → runs_in_any fresh ≡ false → is_idle runs old ≡ true → is_idle runs new ≡ true
idle-fed old new true fresh adds none idle = refl
idle-fed old new false fresh adds none idle =
    let before = sym (any-value old.entries.items) ∙ not-so (list_any (λ (x : Entry Plan). runs_in_any x.value) old.entries.items) idle in
    ap not (any-value new.entries.items ∙ ap (list_any runs_in_any) adds.1 ∙ none-behind (values_of old) (replicate adds.0 fresh) before (none-more-runs fresh adds.0 none))

pub idle-stays : (old new : Table Plan) (runs : Bool) → new.entries ≡ old.entries → is_idle runs old ≡ true → is_idle runs new ≡ true
idle-stays old new runs same idle = ap (λ es. runs || not (list_any (λ (x : Entry Plan). runs_in_any x.value) es.items)) same ∙ idle

closes-not : (plan : Plan) (stream : ℕ) → waits_in_all plan ≡ true → closes_in stream plan ≡ false
closes-not plan stream h = ap is_closing (stage-waits (part_of plan stream).stage (waits-there plan stream h))

run-parts : (plan : Plan) (plans : List Plan) → none_run (plan ∷ plans) ≡ true → (not (runs_in_any plan) ≡ true) × (none_run plans ≡ true)
run-parts plan plans h = and_parts (not (runs_in_any plan)) (none_run plans) h

past-parts : (t : ℤ) (e : Standing) (es : List Standing) → all_start_past t (e ∷ es) ≡ true → (int_lt t e.start ≡ true) × (all_start_past t es ≡ true)
past-parts t e es h = and_parts (int_lt t e.start) (all_start_past t es) h

-- ---- what runs

module _ (filed : ℕ → Option Advertisement) (streams : List Stream) where
  pub none-found : (number : ℕ) (of : Stream) (es : List Standing) (plans : List Plan) → none_run plans ≡ true → find (runs_in filed streams number of) (beside es plans) ≡ None
  none-found number of [] plans h = refl
  none-found number of (e ∷ es) [] h = refl
  none-found number of (e ∷ es) (plan ∷ plans) h =
      let parts = run-parts plan plans h in
      let no : runs_in filed streams number of (e, plan) ≡ false = runs-not plan number parts.0 in
      simp no (none-found number of es plans parts.1)

  pub none-runs : (number : ℕ) (of : Stream) (high : Option ℤ) (steps : List Step) (es : List Standing) (plans : List Plan) → none_run plans ≡ true
      → running_packets filed streams number of high steps (beside es plans) ≡ []
  none-runs number of high steps es plans h =
      ap (Rattle.splice_plans.specs.Parts.found_packets filed streams number of high steps) (none-found number of es plans h)

  none-ran : (number : ℕ) (of : Stream) (high : Option ℤ) (es : List Standing) (plans : List Plan) → length es ≡ length plans → none_run plans ≡ true
      → ran_plans filed streams number of high (beside es plans) ≡ plans
  none-ran number of high [] [] same h = refl
  none-ran number of high [] (plan ∷ plans) same h = absurd (omega (arith, same))
  none-ran number of high (e ∷ es) [] same h = absurd (omega (arith, same))
  none-ran number of high (e ∷ es) (plan ∷ plans) same h =
      let parts = run-parts plan plans h in
      let no : runs_in filed streams number of (e, plan) ≡ false = runs-not plan number parts.0 in
      simp no (ap (λ l. plan ∷ l) (none-ran number of high es plans (omega (arith, same)) parts.1))

  module _ (high : Option ℤ) (es : List Standing) (plans : List Plan) (same : length es ≡ length plans) (h : none_run plans ≡ true) where
    pub all-quiet : (steps : ℕ → List Step) (number : ℕ) (rest : List Stream) → all_running filed streams high es steps plans number rest ≡ []
    all-quiet steps number [] = refl
    all-quiet steps number (of ∷ rest) =
        ap (λ l. l ++ all_running filed streams high es steps (ran_plans filed streams number of high (beside es plans)) (number + 1) rest) (none-runs number of high (steps number) es plans h)
        ∙ ap (λ vs. all_running filed streams high es steps vs (number + 1) rest) (none-ran number of high es plans same h)
        ∙ all-quiet steps (number + 1) rest

    pub one-quiet : (steps : ℕ → List Step) (number : ℕ) (rest : List Stream) (i : ℕ) → running_of filed streams high es steps plans number rest i ≡ []
    one-quiet steps number [] i = refl
    one-quiet steps number (of ∷ rest) i = by (number == i) (one-quiet steps (number + 1) rest i)
      where
        by : (b : Bool) → running_of filed streams high es steps plans (number + 1) rest i ≡ []
            → (if b then running_packets filed streams number of high (steps number) (beside es plans)
            else running_of filed streams high es steps (ran_plans filed streams number of high (beside es plans)) (number + 1) rest i) ≡ []
        by true later = none-runs number of high (steps number) es plans h
        by false later = ap (λ vs. running_of filed streams high es steps vs (number + 1) rest i) (none-ran number of high es plans same h) ∙ later

    pub ran-quiet : (number : ℕ) (rest : List Stream) → all_ran filed streams high es plans number rest ≡ plans
    ran-quiet number [] = refl
    ran-quiet number (of ∷ rest) = ap (λ vs. all_ran filed streams high es vs (number + 1) rest) (none-ran number of high es plans same h) ∙ ran-quiet (number + 1) rest

-- ---- what closes

all-stay : (ads : Adverts) (stream : ℕ) (t : ℤ) (es : List Standing) (plans : List Plan) → length es ≡ length plans → all_wait plans ≡ true → all_start_past t es ≡ true → all_turned ads stream t es plans ≡ plans
all-stay ads stream t [] [] same h past = refl
all-stay ads stream t [] (plan ∷ plans) same h past = absurd (omega (arith, same))
all-stay ads stream t (e ∷ es) [] same h past = absurd (omega (arith, same))
all-stay ads stream t (e ∷ es) (plan ∷ plans) same h past =
    let parts = wait-parts plan plans h in
    let starts = past-parts t e es past in
    ap (λ p. p ∷ all_turned ads stream t es plans) (plan-stays e t (is_played ads e) stream plan (waits-there plan stream parts.0) starts.0)
    ∙ ap (λ l. plan ∷ l) (all-stay ads stream t es plans (omega (arith, same)) parts.1 starts.1)

none-closes : (stream : ℕ) (es : List Standing) (plans : List Plan) → all_wait plans ≡ true → filter (λ (x : Standing × Plan). closes_in stream x.1) (beside es plans) ≡ []
none-closes stream [] plans h = refl
none-closes stream (e ∷ es) [] h = refl
none-closes stream (e ∷ es) (plan ∷ plans) h =
    let parts = wait-parts plan plans h in
    let no : closes_in stream plan ≡ false = closes-not plan stream parts.0 in
    simp no (none-closes stream es plans parts.1)

module _ (filed : ℕ → Option Advertisement) (streams : List Stream) (stream : ℕ) (of : Stream) where
  none-closed : (es : List Standing) (plans : List Plan) → length es ≡ length plans → all_wait plans ≡ true → map (closed_plan filed streams stream of) (beside es plans) ≡ plans
  none-closed [] [] same h = refl
  none-closed [] (plan ∷ plans) same h = absurd (omega (arith, same))
  none-closed (e ∷ es) [] same h = absurd (omega (arith, same))
  none-closed (e ∷ es) (plan ∷ plans) same h =
      let parts = wait-parts plan plans h in
      let no : closes_in stream plan ≡ false = closes-not plan stream parts.0 in
      simp no (ap (λ l. plan ∷ l) (none-closed es plans (omega (arith, same)) parts.1))

  pub closing-quiet : (latest : Option ℤ) (time : Option ℕ) (steps : List Step) (es : List Standing) (plans : List Plan) → length es ≡ length plans → all_wait plans ≡ true → all_start_behind latest time es ≡ true
      → closing_packets filed streams stream of latest time steps es plans ≡ []
  closing-quiet latest None steps es plans same h past = refl
  closing-quiet latest (Some t) steps es plans same h past =
      ap (λ vs. Rattle.splice_plans.specs.Parts.rest_packets filed streams stream of steps (closing_pairs stream (beside es vs))) (all-stay (adverts_of filed streams) stream (place latest t) es plans same h past)
      ∙ ap (λ xs. Rattle.splice_plans.specs.Parts.rest_packets filed streams stream of steps (Rattle.splice_plans.specs.Parts.pairs_by_start xs)) (none-closes stream es plans h)

  pub closed-quiet : (latest : Option ℤ) (time : Option ℕ) (es : List Standing) (plans : List Plan) → length es ≡ length plans → all_wait plans ≡ true → all_start_behind latest time es ≡ true
      → closed_plans filed streams stream of latest time es plans ≡ plans
  closed-quiet latest None es plans same h past = refl
  closed-quiet latest (Some t) es plans same h past =
      ap (λ vs. map (closed_plan filed streams stream of) (beside es vs)) (all-stay (adverts_of filed streams) stream (place latest t) es plans same h past)
      ∙ none-closed es plans same h

-- ---- whether the unit is left out

none-holds : (stream : ℕ) (t : ℤ) (es : List Standing) (plans : List Plan) → all_wait plans ≡ true
    → list_any (λ (x : Standing × Plan). covers t x.0 && not (is_waiting (part_of x.1 stream).stage)) (beside es plans) ≡ false
none-holds stream t [] plans h = refl
none-holds stream t (e ∷ es) [] h = refl
none-holds stream t (e ∷ es) (plan ∷ plans) h =
    let parts = wait-parts plan plans h in
    ap (λ b. (covers t e && not b) || list_any (λ (x : Standing × Plan). covers t x.0 && not (is_waiting (part_of x.1 stream).stage)) (beside es plans)) (waits-there plan stream parts.0)
    ∙ by (covers t e)
    ∙ none-holds stream t es plans parts.1
  where
    later : Bool
    later = list_any (λ (x : Standing × Plan). covers t x.0 && not (is_waiting (part_of x.1 stream).stage)) (beside es plans)

    by : (b : Bool) → ((b && false) || later) ≡ later
    by true = refl
    by false = refl

pub left-quiet : (stream : ℕ) (latest : Option ℤ) (time : Option ℕ) (was : Bool) (es : List Standing) (plans : List Plan) → all_wait plans ≡ true
    → is_left_at_rest time was ≡ is_left stream latest time was es plans
left-quiet stream latest None was es plans h = refl
left-quiet stream latest (Some t) was es plans h = sym (none-holds stream (place latest t) es plans h)

-- ---- what is forgotten

stands-on : (t : ℤ) (e : Standing) → int_lt t e.start ≡ true → int_lt t (forgotten_at e) ≡ true
stands-on t e before = grind (arith, ints)

-- those that start past it are not
pub kept-past : (t : ℤ) (es : List Standing) → all_start_past t es ≡ true → all_kept t es ≡ true
kept-past t [] past = refl
kept-past t (e ∷ es) past =
    let starts = past-parts t e es past in
    ap (λ b. b && all_kept t es) (stands-on t e starts.0) ∙ kept-past t es starts.1

-- nor are those of which the ring says so
kept-all : (latest : Option ℤ) (p : ℕ) (later : ℤ) → p < 2 ^ 33 → CanAdvance (option_map ring_of latest) p → IsTimeAt latest p later → (es : List Standing) (xs : List (Entry Plan)) → map (λ (x : Entry Plan). x.event) xs ≡ map on_ring es
    → All (IsWithin latest) es → list_all (is_kept_at p) xs ≡ true → all_kept later es ≡ true
kept-all latest p later fits can is [] xs same within h = refl
kept-all latest p later fits can is (e ∷ es) [] same within h = absurd (let n = ap length same in omega (arith, n))
kept-all latest p later fits can is (e ∷ es) (x ∷ xs) same within h =
    let parts = and_parts (is_kept_at p x) (list_all (is_kept_at p) xs) h in
    let here = first-same x.event (on_ring e) _ _ same in
    let stands : int_lt later (forgotten_at e) ≡ true
    = sym (ap (λ (ev : Event). is_before_on_ring p ((ring_end ev + 900000) % 2 ^ 33)) here ∙ kept-within latest p later fits can is e (within 0 e (omega arith))) ∙ parts.0 in
    ap (λ b. b && all_kept later es) stands
    ∙ kept-all latest p later fits can is es xs (later-same x.event (on_ring e) _ _ same) (all-later (IsWithin latest) e es within) parts.1

pub kept-there : (table : Table Plan) (latest : Option ℤ) (p : ℕ) (later : ℤ) (es : List Standing) → p < 2 ^ 33 → StandsFor table latest es → CanAdvance (high_time_of table) p → IsTimeAt latest p later → keeps_all table p ≡ true → all_kept later es ≡ true
kept-there table latest p later es fits s can is keeps =
    kept-all latest p later fits (subst (λ h. CanAdvance h p) s.high can) is es table.entries.items s.events s.within
    (and_parts (not (length table.entries.items == 0)) (list_all (is_kept_at p) table.entries.items) keeps).1

pub all-still : (t : ℤ) (es : List Standing) → all_kept t es ≡ true → still_standing t es ≡ es
all-still t [] kept = refl
all-still t (e ∷ es) kept =
    let parts = and_parts (int_lt t (forgotten_at e)) (all_kept t es) kept in
    let stands = parts.0 in
    simp stands (ap (λ l. e ∷ l) (all-still t es parts.1))

none-out : (t : ℤ) (test : Standing × Plan → Bool) (es : List Standing) (plans : List Plan) → all_kept t es ≡ true → count_by (λ (x : Standing × Plan). is_out_at t x.0 && test x) (beside es plans) ≡ 0
none-out t test [] plans past = refl
none-out t test (e ∷ es) [] past = refl
none-out t test (e ∷ es) (plan ∷ plans) past =
    let starts = and_parts (int_lt t (forgotten_at e)) (all_kept t es) past in
    let f : Standing × Plan → Bool = λ x. is_out_at t x.0 && test x in
    let no : f (e, plan) ≡ false = ap (λ b. not b && test (e, plan)) starts.0 in
    count-cons f (e, plan) (beside es plans) ∙ ap (λ b. one_if b + count_by f (beside es plans)) no ∙ ap (λ n. 0 + n) (none-out t test es plans starts.1)

none-more : (n : ℕ) → 0 + n ≡ n
none-more n = omega arith

pub counts-quiet : (t : ℤ) (ads : Adverts) (es : List Standing) (plans : List Plan) (counts : EventCounts) → all_kept t es ≡ true → with_counted (is_out_at t) ads (beside es plans) counts ≡ counts
counts-quiet t ads es plans counts past =
    let build : ℕ → ℕ → ℕ → EventCounts = λ p n u. record { played = p + counts.played; not_fitted = n + counts.not_fitted; unconditioned = u + counts.unconditioned; ignored = counts.ignored } in
    let plain : ℕ → ℕ → ℕ → EventCounts = λ p n u. record { played = p; not_fitted = n; unconditioned = u; ignored = counts.ignored } in
    ap (λ p. build p (count_by (λ (x : Standing × Plan). is_out_at t x.0 && is_not_fitted ads x.0) (beside es plans)) (count_by (λ (x : Standing × Plan). is_out_at t x.0 && (is_played ads x.0 && x.1.is_crossed)) (beside es plans)))
    (none-out t (λ x. is_played ads x.0) es plans past)
    ∙ ap (λ n. build 0 n (count_by (λ (x : Standing × Plan). is_out_at t x.0 && (is_played ads x.0 && x.1.is_crossed)) (beside es plans))) (none-out t (λ x. is_not_fitted ads x.0) es plans past)
    ∙ ap (build 0 0) (none-out t (λ x. is_played ads x.0 && x.1.is_crossed) es plans past)
    ∙ ap (λ p. plain p (0 + counts.not_fitted) (0 + counts.unconditioned)) (none-more counts.played)
    ∙ ap (λ n. plain counts.played n (0 + counts.unconditioned)) (none-more counts.not_fitted)
    ∙ ap (plain counts.played counts.not_fitted) (none-more counts.unconditioned)
