-- The packets of the events that a packet closes are those of the moves that put in what is left of them.
use Rattle.std.proofs.Common.{◌≡◌, ℕ, ◌%◌, List, [], ◌∷◌, ◌++◌, Bool, true, false, not, ◌&&◌, refl, sym, ap, ◌∙◌, Option, None, Some, length, take, map}
use Rattle.std.specs.Prelude.{ℤ, int_lt, slice_get, flat_map, filter}
use Rattle.std.specs.List.{AllByRecursion}
use Rattle.std.proofs.lemmas.Bool.{true≢false}
use Rattle.std.proofs.lemmas.List.{map-append}
use Rattle.ts_packet.proofs.Cases.{by_test}
use Rattle.ts_packet.specs.Numbering.{Step}
use Rattle.pes_time.specs.Line.{ring_of}
use Rattle.unit_stream.specs.Times.{begins, begins_one, high, unit_time}
use Rattle.unit_stream.specs.UnitPackets.{put_in}
use Rattle.psi_tables.specs.declared.stream.Stream.{Stream}
use Rattle.event_table.specs.Standing.{Standing, on_ring, stands}
use Rattle.ad_library.specs.Advertisements.{AdvertUnit, Advertisement, count_of_kind}
use Rattle.splice_laws.specs.Splicing.{SliceUnit, stream}
use Rattle.splice_laws.proofs.PidLemmas.{pids_are_streams}
use Rattle.splice_laws.proofs.SettledLemmas.{switched_pids_are_within}
use Rattle.splice_plans.specs.Counters.{PidSteps, counted_after, out_behind}
use Rattle.splice_plans.specs.declared.plan.Part.{Part}
use Rattle.splice_plans.specs.declared.plan.Plan.{Plan}
use Rattle.splice_plans.specs.Playing.{Adverts, History, is_played, as_played, put_by_start, by_start, played, closing_at}
use Rattle.splice_plans.specs.Histories.{IsHistory}
use Rattle.splice_plans.specs.Adverts.{packed_units}
use Rattle.splice_plans.specs.Slicing.{slice_packets}
use Rattle.splice_plans.specs.Turning.{plan_turned}
use Rattle.splice_plans.specs.Parts.{beside, all_turned, closes_in, put_pair, pairs_by_start, closing_pairs, delta_in, packets_in, pair_packets, rest_packets}
use Rattle.splice_plans.proofs.SliceLemmas.{put_in-append}
use Rattle.splice_plans.proofs.KnownLemmas.{contained}
use Rattle.plan_laws.proofs.StageLemmas.{none-closed, closed-stays}
use Rattle.plan_laws.proofs.UnstampedLemmas.{unstamped-closed}
use Rattle.plan_laws.proofs.DueLemmas.{closing-none, forgotten-closing}
use Rattle.plan_laws.proofs.PlayedLemmas.{put_on, counted-append, out-append, as_played_units, rest_filed, rest-packets, rest-steps}
use Rattle.plan_laws.proofs.EventLemmas.{closing-is}
use Rattle.plan_laws.proofs.PlanLemmas.{switched, ads, known, sent_at, flag_closed, IsOf, falls, slice-is, now-end, shut-flags, none-begins, turned-there, closes-is}
use Rattle.plan_laws.proofs.RunningLemmas.{TellsOf, first}
use Rattle.plan_laws.proofs.OrderLemmas.{IsIdle, left-by-start, all-sorted, all-taken, none-map}

-- ---- events beside what becomes of them

module _ (f : Standing → Plan) where
  abbrev pub pair : Standing → Standing × Plan
  pair e = (e, f e)

  put-pairs : (x : Standing) (ys : List Standing) → put_pair (pair x) (map pair ys) ≡ map pair (put_by_start x ys)
  put-pairs x [] = refl
  put-pairs x (y ∷ ys) = by_test (int_lt x.start y.start) (λ l. simp l refl) (λ l. simp l (ap (λ zs. pair y ∷ zs) (put-pairs x ys)))

  sorted-pairs : (xs : List Standing) → pairs_by_start (map pair xs) ≡ map pair (by_start xs)
  sorted-pairs [] = refl
  sorted-pairs (x ∷ xs) = ap (put_pair (pair x)) (sorted-pairs xs) ∙ put-pairs x (by_start xs)

  filter-pairs : (test : Plan → Bool) (xs : List Standing) → filter (λ (x : Standing × Plan). test x.1) (map pair xs) ≡ map pair (filter (λ e. test (f e)) xs)
  filter-pairs test [] = refl
  filter-pairs test (x ∷ xs) = by_test (test (f x)) (λ y. simp y (ap (λ zs. pair x ∷ zs) (filter-pairs test xs))) (λ y. simp y (filter-pairs test xs))

  pairs-are : (n : ℕ) (xs : List Standing) → closing_pairs n (map pair xs) ≡ map pair (by_start (filter (λ e. closes_in n (f e)) xs))
  pairs-are n xs = ap pairs_by_start (filter-pairs (closes_in n) xs) ∙ sorted-pairs (filter (λ e. closes_in n (f e)) xs)

beside-turned : (adverts : Adverts) (n : ℕ) (t : ℤ) (before : Standing → Plan) (es : List Standing)
    → beside es (all_turned adverts n t es (map before es)) ≡ map (pair (λ e. plan_turned e t (is_played adverts e) n (before e))) es
beside-turned adverts n t before [] = refl
beside-turned adverts n t before (e ∷ es) = ap (λ l. (e, plan_turned e t (is_played adverts e) n (before e)) ∷ l) (beside-turned adverts n t before es)

-- ---- one after another

module _ (filed : ℕ → Option Advertisement) (streams : List Stream) (n : ℕ) (of : Stream) (pid : ℕ) (f : Standing → Plan) (left : Standing → List SliceUnit) where
  abbrev steps_behind : PidSteps → List Step
  steps_behind done = done pid

  abbrev one : List Step → Standing → List (List ℕ)
  one steps e = pair_packets filed streams n of None steps (e, f e)

  -- its packets are those of the moves that put in what is left of it
  abbrev pub IsPut : Standing → Type 0
  IsPut e = (done : PidSteps) → (one (steps_behind done) e ≡ out_behind packed_units done (put_on pid (left e))) × (steps_behind (counted_after packed_units done (put_on pid (left e))) ≡ put_in (one (steps_behind done) e) (steps_behind done))

  abbrev rest : List Step → List Standing → List (List ℕ)
  rest steps es = rest_packets filed streams n of steps (map (pair f) es)

  rest-put : (es : List Standing) → AllByRecursion IsPut es → (done : PidSteps)
      → (rest (steps_behind done) es ≡ out_behind packed_units done (put_on pid (flat_map left es))) × (steps_behind (counted_after packed_units done (put_on pid (flat_map left es))) ≡ put_in (rest (steps_behind done) es) (steps_behind done))
  rest-put [] a done = (refl, refl)
  rest-put (e ∷ es) a done =
      let X = put_on pid (left e) in
      let later = put_on pid (flat_map left es) in
      let st = steps_behind done in
      let now = a.0 done in
      let next = rest-put es a.1 (counted_after packed_units done X) in
      let split : put_on pid (left e ++ flat_map left es) ≡ X ++ later = map-append _ (left e) (flat_map left es) in (
        ap (λ s. one st e ++ rest s es) (sym now.1)
            ∙ ap (λ ps. one st e ++ ps) next.0
            ∙ ap (λ ps. ps ++ out_behind packed_units (counted_after packed_units done X) later) now.0
            ∙ sym (ap (out_behind packed_units done) split ∙ out-append packed_units done X later),
        ap (λ ms. steps_behind (counted_after packed_units done ms)) split
            ∙ ap steps_behind (counted-append done X later)
            ∙ next.1
            ∙ ap (λ s. put_in (rest s es) s) now.1
            ∙ sym (put_in-append (one st e) (rest (put_in (one st e) st) es) st),
      )

-- ---- in a run

shut-alike : (a b : Bool) → a ≡ b → (a && not b) ≡ false
shut-alike true true h = refl
shut-alike true false h = absurd (true≢false h)
shut-alike false b h = refl

open-now : (a b : Bool) → a ≡ false → (a && not b) ≡ false
open-now true b h = absurd (true≢false h)
open-now false b h = refl

module _ (filed : ℕ → Option Advertisement) (streams : List Stream) (events : History) (p : List ℕ) (past : List (List ℕ))
    (h : IsHistory (high (switched filed streams events p past)) events) (turn : begins_one (switched filed streams events p past) p past ≡ true) where
  abbrev pids : List ℕ
  pids = switched filed streams events p past

  abbrev adverts : Adverts
  adverts = ads filed streams events p past

  abbrev Tells : Standing → Type 0
  Tells e = TellsOf filed streams events p past h turn e

  -- what goes out of an event that the packet closes on the PID
  abbrev pub close : ℕ → Standing → List SliceUnit
  close q e = closing_at (begins_one pids) (stream pids q) (as_played e) (known filed streams events p past e) (adverts.units e q) p past

  close-none : (i q : ℕ) → slice_get pids i ≡ Some q → (e : Standing) → (flag_closed filed streams events p past e q (p ∷ past) && not (flag_closed filed streams events p past e q past)) ≡ false → close q e ≡ []
  close-none i q is e y =
      closing-none (begins_one pids) (stream pids q) (pids_are_streams pids q) (as_played e) (known filed streams events p past e) (adverts.units e q)
      (falls filed streams events p past h e i q is) (λ p past b. none-begins pids i q p past is b) (λ p past b. simp b refl) p past y

  -- nothing in a stream in which no unit begins
  pub other-none : (i q : ℕ) → slice_get pids i ≡ Some q → begins q p past ≡ false → (es : List Standing) → flat_map (close q) es ≡ []
  other-none i q is b [] = refl
  other-none i q is b (e ∷ es) =
      ap (λ us. us ++ flat_map (close q) es) (close-none i q is e (shut-alike _ _ (closed-stays (stream pids q) (as_played e) (known filed streams events p past e) p past b)))
      ∙ other-none i q is b es

  module _ (n pid : ℕ) (there : slice_get pids n ≡ Some pid) where
    -- nothing where the unit has no stamp
    unstamped-each : unit_time pids pid (p ∷ past) ≡ unit_time pids pid past → (es : List Standing) → AllByRecursion Tells es → AllByRecursion (λ e. close pid e ≡ []) es
    unstamped-each same [] told = tt
    unstamped-each same (e ∷ es) told = (
      close-none n pid there e (shut-alike _ _ (unstamped-closed (stream pids pid) (pids_are_streams pids pid) adverts e (known filed streams events p past e) (falls filed streams events p past h e n pid there) p past
          (told.0).before (told.0).now same ((told.0).settled pid (contained pids n pid there)) ((told.0).settled_now pid (contained pids n pid there)))),
      unstamped-each same es told.1,
    )

    pub unstamped-none : unit_time pids pid (p ∷ past) ≡ unit_time pids pid past → (es : List Standing) → AllByRecursion Tells es → flat_map (close pid) (played adverts es) ≡ []
    unstamped-none same es told =
        none-map (close pid) (played adverts es) (all-sorted (λ e. close pid e ≡ []) (filter (is_played adverts) es)
        (all-taken (λ e. close pid e ≡ []) (is_played adverts) es (whatever es (unstamped-each same es told))))
      where
        whatever : (es : List Standing) → AllByRecursion (λ e. close pid e ≡ []) es → AllByRecursion (λ e. is_played adverts e ≡ true → close pid e ≡ []) es
        whatever [] a = tt
        whatever (e ∷ es) a = (λ y. a.0, whatever es a.1)

    -- ---- where it has one

    module _ (small : n % 8 ≡ n) (others : (j q : ℕ) → slice_get pids j ≡ Some q → (j ≡ n → ⊥) → begins q p past ≡ false)
        (b : begins pid p past ≡ true) (t : ℤ) (time_is : unit_time pids pid (p ∷ past) ≡ Some t) (of : Stream) (o : IsOf filed streams events p past n pid of) where
      abbrev turned_plan : Standing → Plan
      turned_plan e = plan_turned e t (is_played adverts e) n (first filed streams events p past h turn e)

      abbrev closes : Standing → Bool
      closes e = closes_in n (turned_plan e)

      closes-by : (e : Standing) → Tells e → stands (high pids past) e ≡ true → closes e ≡ (flag_closed filed streams events p past e pid (p ∷ past) && not (flag_closed filed streams events p past e pid past))
      closes-by e told up = closes-is filed streams events p past h turn e told n pid there small others b t time_is up of o

      abbrev left : Standing → List AdvertUnit
      left e = rest_filed e.start of.kind (count_of_kind of.kind (take n streams)) e.length (filed e.program) (length (sent_at filed streams events p past e pid past)) None

      one-put : (e : Standing) → Tells e → stands (high pids past) e ≡ true → closes e ≡ true → IsPut filed streams n of pid turned_plan (close pid) e
      one-put e told up y done =
          let flags = shut-flags _ _ (sym (closes-by e told up) ∙ y) in
          let st = done pid in
          let kind = of.kind in
          let k = count_of_kind of.kind (take n streams) in
          let out = length (sent_at filed streams events p past e pid past) in
          let packets : pair_packets filed streams n of None st (e, turned_plan e) ≡ slice_packets pid (delta_in (ring_of e.start) (filed e.program)) st (left e)
          = ap (λ (x : Part). packets_in filed streams n of (on_ring e) x.sent None st) (turned-there filed streams events p past h turn e told n pid there small others b t time_is up of o)
          ∙ ap (λ z. slice_packets z (delta_in (ring_of e.start) (filed e.program)) st (left e)) o.pid_is in
          let units : close pid e ≡ as_played_units e.start (filed e.program) (left e)
          = closing-is (begins_one pids) (stream pids pid) (pids_are_streams pids pid) (switched_pids_are_within pids pid (contained pids n pid there)) e (known filed streams events p past e) (adverts.units e pid)
          (falls filed streams events p past h e n pid there) p past turn (now-end filed streams events p past h turn e told pid n there)
          (filed e.program) kind k (slice-is filed streams events p past e n pid of o) flags.1 flags.0 in (
            packets ∙ sym (rest-packets e.start kind k e.length (filed e.program) out None pid done) ∙ ap (λ us. out_behind packed_units done (put_on pid us)) (sym units),
            ap (λ us. ((counted_after packed_units done (put_on pid us)) pid)) units ∙ rest-steps e.start kind k e.length (filed e.program) out None pid done ∙ ap (λ ps. put_in ps st) (sym packets),
          )

      puts-each : (es : List Standing) → AllByRecursion Tells es → AllByRecursion (λ e. stands (high pids past) e ≡ true) es → AllByRecursion (λ e. closes e ≡ true → IsPut filed streams n of pid turned_plan (close pid) e) es
      puts-each [] told up = tt
      puts-each (e ∷ es) told up = (one-put e told.0 up.0, puts-each es told.1 up.1)

      idle-each : (es : List Standing) → AllByRecursion Tells es → AllByRecursion (IsIdle (close pid) closes (is_played adverts) (stands (high pids past))) es
      idle-each [] told = tt
      idle-each (e ∷ es) told =
          let F = falls filed streams events p past h e n pid there in
          let K = known filed streams events p past e in (
            record {
              untaken = λ up y. close-none n pid there e (sym (closes-by e told.0 up) ∙ y);
              unplayed = λ y. close-none n pid there e (open-now _ _ (none-closed (stream pids pid) (as_played e) K F (p ∷ past) ((told.0).now ∙ simp y refl)));
              forgotten = λ out. forgotten-closing (begins_one pids) (stream pids pid) (pids_are_streams pids pid) (as_played e) K (adverts.units e pid) F
                  (λ p past b. none-begins pids n pid p past there b) (λ p past b. simp b refl) p past adverts e refl (told.0).before (told.0).now out;
            },
            idle-each es told.1,
          )

      -- what goes out of all that it closes, and what that does to the counter
      pub closing-put : (evs : List Standing) → AllByRecursion Tells evs → (es : List Standing) → es ≡ filter (stands (high pids past)) evs → AllByRecursion Tells es → AllByRecursion (λ e. stands (high pids past) e ≡ true) es → (done : PidSteps)
          → (rest_packets filed streams n of (done pid) (closing_pairs n (beside es (all_turned adverts n t es (map (first filed streams events p past h turn) es)))) ≡ out_behind packed_units done (put_on pid (flat_map (close pid) (played adverts evs))))
          × (((counted_after packed_units done (put_on pid (flat_map (close pid) (played adverts evs)))) pid)
          ≡ put_in (rest_packets filed streams n of (done pid) (closing_pairs n (beside es (all_turned adverts n t es (map (first filed streams events p past h turn) es))))) (done pid))
      closing-put evs told es is told_es up done =
          let st = done pid in
          let taken = by_start (filter closes es) in
          let pairs : closing_pairs n (beside es (all_turned adverts n t es (map (first filed streams events p past h turn) es))) ≡ map (pair turned_plan) taken
          = ap (closing_pairs n) (beside-turned adverts n t (first filed streams events p past h turn) es) ∙ pairs-are turned_plan n es in
          let P = IsPut filed streams n of pid turned_plan (close pid) in
          let puts = rest-put filed streams n of pid turned_plan (close pid) taken (all-sorted P (filter closes es) (all-taken P closes es (puts-each es told_es up))) done in
          let units : flat_map (close pid) taken ≡ flat_map (close pid) (played adverts evs)
          = ap (λ l. flat_map (close pid) (by_start (filter closes l))) is ∙ left-by-start (close pid) closes (is_played adverts) (stands (high pids past)) evs (idle-each evs told) in (
            ap (rest_packets filed streams n of st) pairs ∙ puts.0 ∙ ap (λ us. out_behind packed_units done (put_on pid us)) units,
            ap (λ us. ((counted_after packed_units done (put_on pid us)) pid)) (sym units) ∙ puts.1 ∙ ap (λ xs. put_in (rest_packets filed streams n of st xs) st) (sym pairs),
          )
