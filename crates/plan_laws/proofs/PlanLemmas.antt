-- The plan of an event that stands: before the packet, once the packet has closed what it closes, and as each stream runs on.
use Rattle.std.proofs.Common.{◌≡◌, ℕ, zero, suc, ◌+◌, ◌%◌, ◌<◌, List, [], ◌∷◌, ◌++◌, Bool, true, false, not, ◌&&◌, ◌||◌, ⊎_elim, refl, sym, ap, ◌∙◌, subst, Option, None, Some, arith, if◌then◌else◌, length, take, drop, map}
use Rattle.std.specs.Prelude.{ℤ, slice_get, slice_index_or, slice_set}
use Rattle.std.proofs.lemmas.Bool.{true≢false, cases_order, or_parts}
use Rattle.std.proofs.lemmas.List.{length-map}
use Rattle.ts_packet.proofs.Cases.{by_test}
use Rattle.unit_stream.specs.Times.{begins, begins_one, high, unit_time}
use Rattle.psi_tables.specs.declared.stream.Stream.{Stream}
use Rattle.event_table.specs.Standing.{Standing, end_of, on_ring, stands}
use Rattle.ad_library.specs.Advertisements.{Advertisement, count_of_kind}
use Rattle.splice_laws.specs.Splicing.{SliceUnit, stream}
use Rattle.splice_laws.specs.Settled.{begun_now, closed_now}
use Rattle.splice_laws.specs.Ends.{up_to_end}
use Rattle.splice_laws.proofs.PidLemmas.{pids_are_streams}
use Rattle.splice_laws.proofs.SettledLemmas.{switched_pids_are_within}
use Rattle.splice_plans.specs.declared.plan.Stage.{Stage}
use Rattle.splice_plans.specs.declared.plan.Stage.TheVariants.{Waiting, Running, Closing, Over}
use Rattle.splice_plans.specs.declared.plan.Part.{Part}
use Rattle.splice_plans.specs.declared.plan.Plan.{Plan}
use Rattle.splice_plans.specs.Playing.{Adverts, History, is_played, as_played, end_known, sent_known}
use Rattle.splice_plans.specs.Histories.{IsHistory}
use Rattle.splice_plans.specs.Laws.{EndsFall}
use Rattle.splice_plans.specs.Adverts.{adverts_of, kind_and_place, units_at}
use Rattle.splice_plans.specs.Turning.{turned, crosses, waiting, at_stage, part_of, plan_turned}
use Rattle.splice_plans.specs.Parts.{is_closing, is_running, closes_in, units_in, closed_plan, runs_in, ran_plan, reached_by}
use Rattle.splice_plans.specs.Known.{stage_known, crossed_known, padded, part_known, is_crossed_known, plan_known}
use Rattle.splice_plans.proofs.AdvertLemmas.{libraries_are_steady}
use Rattle.splice_plans.proofs.KnownLemmas.{ends_never_rise, contained}
use Rattle.splice_plans.proofs.AllTurnedLemmas.{set-mixed, get-mixed, all-mixed}
use Rattle.std.proofs.lemmas.Option.{slice_get_within}
use Rattle.plan_laws.proofs.StageLemmas.{shut, stage_by, stage-stays, closed-stays, crossed-stays, none-begun}
use Rattle.plan_laws.proofs.ToldLemmas.{Told}
use Rattle.plan_laws.proofs.UnitLemmas.{stamped-stage, stamped-closing, stamped-crossed}
use Rattle.plan_laws.proofs.UnstampedLemmas.{unstamped-closed, unstamped-stage, unstamped-crossed}
use Rattle.plan_laws.proofs.DueLemmas.{sent-closed, sent-unbegun}
use Rattle.plan_laws.proofs.PlayedLemmas.{as_played_units, slice_filed, whole-slice}
use Rattle.plan_laws.proofs.EventLemmas.{closing-length, running-length}
use Rattle.plan_laws.proofs.PartLemmas.{get-map, padded-set, padded-get, get-set, set-twice, length-set, map-set, map-same, any-set, any-same}

get-or : (xs : List ℕ) (n x : ℕ) → slice_get xs n ≡ Some x → slice_index_or xs n x ≡ x
get-or [] n x h = absurd (cc)
get-or (y ∷ xs) zero x h = let is : y ≡ x = cc in is
get-or (y ∷ xs) (suc n) x h = get-or xs n x h

abbrev make : Stage → ℕ → Part
make stage sent = record { stage = stage; sent = sent }

pub none-begins : (xs : List ℕ) (n pid : ℕ) (p : List ℕ) (past : List (List ℕ)) → slice_get xs n ≡ Some pid → begins_one xs p past ≡ false → begins pid p past ≡ false
none-begins [] n pid p past h b = absurd (cc)
none-begins (y ∷ xs) zero pid p past h b = let is : y ≡ pid = cc in ap (λ q. begins q p past) (sym is) ∙ (or_parts (begins y p past) (begins_one xs p past) b).0
none-begins (y ∷ xs) (suc n) pid p past h b = none-begins xs n pid p past h (or_parts (begins y p past) (begins_one xs p past) b).1

-- ---- one part changed

module _ (filed : ℕ → Option Advertisement) (streams : List Stream) (n : ℕ) (of : Stream) (small : n % 8 ≡ n) where
  -- what is left of an event in its part
  abbrev left_of : Standing → ℕ → Option ℕ → ℕ
  left_of e sent reached = length (units_in filed streams n of (on_ring e) sent reached)

  abbrev closed_part : Standing → Stage → Part → Part
  closed_part e stage part = if is_closing stage then record { stage = Over; sent = part.sent + left_of e part.sent None } else at_stage stage part

  pub part-there : (ps : List Part) (c : Bool) → n < length ps → part_of (record { parts = padded ps; is_crossed = c }) n ≡ slice_index_or ps n waiting
  part-there ps c l = ap (λ m. slice_index_or (padded ps) m waiting) small ∙ padded-get ps n waiting l

  closed-by : (e : Standing) (ps : List Part) (c : Bool) (stage : Stage) (part : Part) → n < length ps
      → closed_plan filed streams n of (e, record { parts = padded (slice_set ps n (at_stage stage part)); is_crossed = c }) ≡ record { parts = padded (slice_set ps n (closed_part e stage part)); is_crossed = c }
  closed-by e ps c stage part l =
      by_test (is_closing stage)
      (λ y. let close : is_closing (part_of plan n).stage ≡ true = ap (λ (x : Part). is_closing x.stage) there ∙ y in
      simp y (picks _ _ (is_closing (part_of plan n).stage) close
      ∙ ap (λ m. record { parts = slice_set (padded qs) m (record { stage = Over; sent = (part_of plan n).sent + left_of e (part_of plan n).sent None }); is_crossed = c }) small
      ∙ ap (λ (x : Part). record { parts = slice_set (padded qs) n (record { stage = Over; sent = x.sent + left_of e x.sent None }); is_crossed = c }) there
      ∙ ap (λ ps. record { parts = ps; is_crossed = c }) (padded-set qs n (record { stage = Over; sent = part.sent + left_of e part.sent None }) in_qs ∙ ap padded (set-twice ps n (at_stage stage part) _))))
      (λ y. let close : is_closing (part_of plan n).stage ≡ false = ap (λ (x : Part). is_closing x.stage) there ∙ y in
      simp y (stays _ _ (is_closing (part_of plan n).stage) close))
    where
      qs : List Part
      qs = slice_set ps n (at_stage stage part)

      plan : Plan
      plan = record { parts = padded qs; is_crossed = c }

      in_qs : n < length qs
      in_qs = let e = length-set ps n (at_stage stage part) in omega (arith, e, l)

      there : part_of plan n ≡ at_stage stage part
      there = part-there qs c in_qs ∙ get-set ps n (at_stage stage part) waiting l

      picks : (x y : Plan) (b : Bool) → b ≡ true → (if b then x else y) ≡ x
      picks x y true h = refl
      picks x y false h = absurd (true≢false (sym h))

      stays : (x y : Plan) (b : Bool) → b ≡ false → (if b then x else y) ≡ y
      stays x y true h = absurd (true≢false h)
      stays x y false h = refl

-- ---- small cases

either : {P : Type 0} (j n : ℕ) → (j ≡ n → P) → ((j ≡ n → ⊥) → P) → P
either j n a b = ⊎_elim a (λ r. b (λ e. ⊎_elim (λ l. absurd (omega (arith, l, e))) (λ l. absurd (omega (arith, l, e))) r)) (cases_order j n)

same-pid : (xs : List ℕ) (j n q pid : ℕ) → j ≡ n → slice_get xs j ≡ Some q → slice_get xs n ≡ Some pid → pid ≡ q
same-pid xs j n q pid e h k = let is : Some pid ≡ Some q = sym k ∙ ap (slice_get xs) (sym e) ∙ h in cc

pub pick-first : {A : Type 0} (x y : A) (b : Bool) → b ≡ true → (if b then x else y) ≡ x
pick-first x y true h = refl
pick-first x y false h = absurd (true≢false (sym h))

pub pick-second : {A : Type 0} (x y : A) (b : Bool) → b ≡ false → (if b then x else y) ≡ y
pick-second x y true h = absurd (true≢false h)
pick-second x y false h = refl

pub shut-flags : (a b : Bool) → (a && not b) ≡ true → (a ≡ true) × (b ≡ false)
shut-flags true true h = absurd (true≢false (sym h))
shut-flags true false h = (refl, refl)
shut-flags false b h = absurd (true≢false (sym h))

shut-same : (s : Stage) → is_closing s ≡ false → shut s ≡ s
shut-same Waiting h = refl
shut-same Running h = refl
shut-same Closing h = absurd (true≢false h)
shut-same Over h = refl

sent-kept : (a b : Bool) (m n : ℕ) → (a && not b) ≡ false → (b ≡ true → m ≡ n) → n ≡ (if a then m else n)
sent-kept true true m n h k = sym (k refl)
sent-kept true false m n h k = absurd (true≢false h)
sent-kept false b m n h k = refl

idle-sent : (a c : Bool) (m n : ℕ) → (a && not c) ≡ false → (a ≡ false → m ≡ n) → m ≡ (if c then m else n)
idle-sent true true m n h k = refl
idle-sent true false m n h k = absurd (true≢false h)
idle-sent false true m n h k = refl
idle-sent false false m n h k = k refl

pub running-flags : (c b : Bool) → is_running (stage_by c b) ≡ (b && not c)
running-flags true true = refl
running-flags true false = refl
running-flags false true = refl
running-flags false false = refl

length-mixed : (new old : List Part) (i : ℕ) → length new ≡ length old → length (take i new ++ drop i old) ≡ length new
length-mixed [] [] zero h = refl
length-mixed [] [] (suc i) h = refl
length-mixed [] (b ∷ old) i h = absurd (omega (arith, h))
length-mixed (a ∷ new) [] i h = absurd (omega (arith, h))
length-mixed (a ∷ new) (b ∷ old) zero h = sym h
length-mixed (a ∷ new) (b ∷ old) (suc i) h = ap suc (length-mixed new old i (omega (arith, h)))

set-same : (xs : List Part) (i : ℕ) (d x : Part) → i < length xs → x ≡ slice_index_or xs i d → slice_set xs i x ≡ xs
set-same [] i d x l h = absurd (omega (arith, l))
set-same (y ∷ xs) zero d x l h = ap (λ z. z ∷ xs) h
set-same (y ∷ xs) (suc i) d x l h = ap (λ z. y ∷ z) (set-same xs i d x (omega (arith, l)) h)

-- ---- in a run

module _ (filed : ℕ → Option Advertisement) (streams : List Stream) (events : History) (p : List ℕ) (past : List (List ℕ)) where
  abbrev pub switched : List ℕ
  switched = map (λ (s : Stream). s.pid) streams

  abbrev pub ads : Adverts
  ads = adverts_of filed streams

  abbrev pub known : Standing → List (List ℕ) → Option ℤ
  known e = end_known ads events e.start

  abbrev pub flag_closed : Standing → ℕ → List (List ℕ) → Bool
  flag_closed e q = closed_now (stream switched q) (as_played e) (known e)

  abbrev pub flag_begun : Standing → ℕ → List (List ℕ) → Bool
  flag_begun e q = begun_now (stream switched q) (as_played e) (known e)

  abbrev pub stage_at : Standing → ℕ → List (List ℕ) → Stage
  stage_at e q = stage_known (stream switched q) (as_played e) (known e)

  abbrev pub sent_at : Standing → ℕ → List (List ℕ) → List SliceUnit
  sent_at e q = sent_known (begins_one switched) (stream switched q) (as_played e) (known e) (ads.units e q)

  abbrev pub before_part : Standing → ℕ → Part
  before_part e q = part_known switched ads events e past q

  abbrev pub now_part : Standing → ℕ → Part
  now_part e q = part_known switched ads events e (p ∷ past) q

  -- once the rest of what the packet closes is out
  abbrev pub mid_part : Standing → ℕ → Part
  mid_part e q = record { stage = stage_at e q (p ∷ past); sent = if flag_closed e q (p ∷ past) then length (sent_at e q (p ∷ past)) else length (sent_at e q past) }

  -- once what is due in the first streams is out too
  abbrev pub mixed_parts : ℕ → Standing → List Part
  mixed_parts i e = take i (map (now_part e) switched) ++ drop i (map (mid_part e) switched)

  abbrev pub mixed_plan : ℕ → Standing → Plan
  mixed_plan i e = record { parts = padded (mixed_parts i e); is_crossed = is_crossed_known switched ads events (p ∷ past) e }

  -- what is played on the PID is the slice of this stream of the advertisement
  pub record IsOf (i q : ℕ) (of : Stream) : Type 0 where
    pub there : slice_get switched i ≡ Some q
    pub pid_is : of.pid ≡ q
    pub placed : kind_and_place q [] streams ≡ Some (of.kind, count_of_kind of.kind (take i streams))

  pub falls : IsHistory (high switched) events → (e : Standing) (i q : ℕ) → slice_get switched i ≡ Some q → EndsFall (stream switched q) (as_played e) (known e)
  falls h e i q is = ends_never_rise switched q (contained switched i q is) ads (libraries_are_steady filed streams) events h (as_played e)

  pub slice-is : (e : Standing) (i q : ℕ) (of : Stream) → IsOf i q of → up_to_end (end_of e) (ads.units e q) ≡ as_played_units e.start (filed e.program) (slice_filed e.start of.kind (count_of_kind of.kind (take i streams)) e.length (filed e.program))
  slice-is e i q of o =
      ap (λ w. up_to_end (end_of e) (units_at e.start (filed e.program) w)) o.placed ∙ whole-slice e.start of.kind (count_of_kind of.kind (take i streams)) e.length (filed e.program)

  module _ (h : IsHistory (high switched) events) (turn : begins_one switched p past ≡ true) (e : Standing) (told : Told switched ads events p past e) where
    pub now-end : (q : ℕ) (i : ℕ) → slice_get switched i ≡ Some q → flag_begun e q (p ∷ past) ≡ true → known e (p ∷ past) ≡ Some (end_of e)
    now-end q i is b = by_test (is_played ads e)
        (λ y. told.now ∙ simp y refl)
        (λ n. absurd (true≢false (sym b ∙ none-begun (stream switched q) (as_played e) (known e) (falls h e i q is) (p ∷ past) (told.now ∙ simp n refl))))

    pub unturned : (i q : ℕ) → slice_get switched i ≡ Some q → (p : List ℕ) (past : List (List ℕ)) → begins_one switched p past ≡ false → begins q p past ≡ false
    unturned i q is p past b = none-begins switched i q p past is b

    pub still : (q : ℕ) (p : List ℕ) (past : List (List ℕ)) → begins_one switched p past ≡ false → high switched (p ∷ past) ≡ high switched past
    still q p past b = simp b refl

    -- the part stays where the stage does
    part-same : (i q : ℕ) → slice_get switched i ≡ Some q → stage_at e q (p ∷ past) ≡ stage_at e q past → flag_closed e q (p ∷ past) ≡ flag_closed e q past → before_part e q ≡ mid_part e q
    part-same i q is s c =
        ap (λ s. make s (length (sent_at e q past))) (sym s)
        ∙ ap (make (stage_at e q (p ∷ past))) (sent-same (flag_closed e q (p ∷ past)) (λ y. sent-closed (begins_one switched) (stream switched q) (pids_are_streams switched q) (as_played e) (known e) (ads.units e q) (falls h e i q is) (unturned i q is) (still q) p past (sym c ∙ y)))
      where
        sent-same : (b : Bool) → (b ≡ true → sent_at e q (p ∷ past) ≡ sent_at e q past) → length (sent_at e q past) ≡ (if b then length (sent_at e q (p ∷ past)) else length (sent_at e q past))
        sent-same true k = sym (ap length (k refl))
        sent-same false k = refl

    pub part-stays : (i q : ℕ) → slice_get switched i ≡ Some q → begins q p past ≡ false → before_part e q ≡ mid_part e q
    part-stays i q is b = part-same i q is (stage-stays (stream switched q) (as_played e) (known e) p past b) (closed-stays (stream switched q) (as_played e) (known e) p past b)

    -- ---- where the unit has no stamp

    module _ (n pid : ℕ) (there : slice_get switched n ≡ Some pid) (others : (j q : ℕ) → slice_get switched j ≡ Some q → (j ≡ n → ⊥) → begins q p past ≡ false)
        (same : unit_time switched pid (p ∷ past) ≡ unit_time switched pid past) where
      part-unstamped : before_part e pid ≡ mid_part e pid
      part-unstamped = part-same n pid there
          (unstamped-stage (stream switched pid) (pids_are_streams switched pid) ads e (known e) (falls h e n pid there) p past told.before told.now same (told.settled pid (contained switched n pid there)) (told.settled_now pid (contained switched n pid there)))
          (unstamped-closed (stream switched pid) (pids_are_streams switched pid) ads e (known e) (falls h e n pid there) p past told.before told.now same (told.settled pid (contained switched n pid there)) (told.settled_now pid (contained switched n pid there)))

      crossed-unstamped : crossed_known (stream switched pid) (as_played e) (known e) (p ∷ past) ≡ crossed_known (stream switched pid) (as_played e) (known e) past
      crossed-unstamped = unstamped-crossed (stream switched pid) (pids_are_streams switched pid) ads e (known e) (falls h e n pid there) p past told.before told.now same (told.settled pid (contained switched n pid there)) (told.settled_now pid (contained switched n pid there))

      part-all : (j q : ℕ) → slice_get switched j ≡ Some q → before_part e q ≡ mid_part e q
      part-all j q is = either j n (λ z. subst (λ q. before_part e q ≡ mid_part e q) (same-pid switched j n q pid z is there) part-unstamped) (λ z. part-stays j q is (others j q is z))

      crossed-all : (j q : ℕ) → slice_get switched j ≡ Some q → crossed_known (stream switched q) (as_played e) (known e) past ≡ crossed_known (stream switched q) (as_played e) (known e) (p ∷ past)
      crossed-all j q is = either j n
          (λ z. subst (λ q. crossed_known (stream switched q) (as_played e) (known e) past ≡ crossed_known (stream switched q) (as_played e) (known e) (p ∷ past)) (same-pid switched j n q pid z is there) (sym crossed-unstamped))
          (λ z. sym (crossed-stays (stream switched q) (as_played e) (known e) p past (others j q is z)))

      pub plan-unstamped : plan_known switched ads events past e ≡ mixed_plan 0 e
      plan-unstamped =
          ap (λ ps. record { parts = padded ps; is_crossed = is_crossed_known switched ads events past e }) (map-same switched (before_part e) (mid_part e) part-all)
          ∙ ap (λ c. record { parts = padded (mixed_parts 0 e); is_crossed = c }) (any-same switched (λ q. crossed_known (stream switched q) (as_played e) (known e) past) (λ q. crossed_known (stream switched q) (as_played e) (known e) (p ∷ past)) crossed-all)

    -- ---- where it has one

    module _ (n pid : ℕ) (there : slice_get switched n ≡ Some pid) (small : n % 8 ≡ n) (others : (j q : ℕ) → slice_get switched j ≡ Some q → (j ≡ n → ⊥) → begins q p past ≡ false)
        (b : begins pid p past ≡ true) (t : ℤ) (time_is : unit_time switched pid (p ∷ past) ≡ Some t) (up : stands (high switched past) e ≡ true) (of : Stream) (o : IsOf n pid of) where
      abbrev pub turn_stage : Stage
      turn_stage = turned e t (is_played ads e) (stage_at e pid past)

      stage-turned : stage_at e pid (p ∷ past) ≡ shut turn_stage
      stage-turned = stamped-stage (stream switched pid) ads e (known e) (falls h e n pid there) p past told.before told.now b t time_is up

      closing-turned : is_closing turn_stage ≡ (flag_closed e pid (p ∷ past) && not (flag_closed e pid past))
      closing-turned = stamped-closing (stream switched pid) ads e (known e) (falls h e n pid there) p past told.before told.now b t time_is up

      out-closed : is_closing turn_stage ≡ true → closed_part filed streams n of small e turn_stage (before_part e pid) ≡ mid_part e pid
      out-closed y =
          let flags = shut-flags (flag_closed e pid (p ∷ past)) (flag_closed e pid past) (sym closing-turned ∙ y) in
          let long = closing-length (begins_one switched) (stream switched pid) (pids_are_streams switched pid) (switched_pids_are_within switched pid (contained switched n pid there)) e (known e) (ads.units e pid) (falls h e n pid there)
          p past turn (now-end pid n there) (filed e.program) of.kind (count_of_kind of.kind (take n streams)) (slice-is e n pid of o) flags.1 flags.0 in
          pick-first _ _ (is_closing turn_stage) y
          ∙ ap (make Over) (sym long)
          ∙ ap (λ s. make s (length (sent_at e pid (p ∷ past)))) (sym (ap (λ c. stage_by c (flag_begun e pid (p ∷ past))) flags.0))
          ∙ ap (make (stage_at e pid (p ∷ past))) (sym (pick-first _ _ (flag_closed e pid (p ∷ past)) flags.0))

      out-open : is_closing turn_stage ≡ false → closed_part filed streams n of small e turn_stage (before_part e pid) ≡ mid_part e pid
      out-open y =
          pick-second _ _ (is_closing turn_stage) y
          ∙ ap (λ s. make s (length (sent_at e pid past))) (sym (stage-turned ∙ shut-same turn_stage y))
          ∙ ap (make (stage_at e pid (p ∷ past))) (sent-kept (flag_closed e pid (p ∷ past)) (flag_closed e pid past) (length (sent_at e pid (p ∷ past))) (length (sent_at e pid past)) (sym closing-turned ∙ y)
          (λ c. ap length (sent-closed (begins_one switched) (stream switched pid) (pids_are_streams switched pid) (as_played e) (known e) (ads.units e pid) (falls h e n pid there) (unturned n pid there) (still pid) p past c)))

      part-is : closed_part filed streams n of small e turn_stage (before_part e pid) ≡ mid_part e pid
      part-is = by_test (is_closing turn_stage) out-closed out-open

      within : n < length (map (before_part e) switched)
      within = let l = slice_get_within switched n pid there in let m = length-map switched (before_part e) in omega (arith, l, m)

      abbrev crossed_then : Bool
      crossed_then = is_crossed_known switched ads events past e || crosses e t (stage_at e pid past)

      part-before : part_of (plan_known switched ads events past e) n ≡ before_part e pid
      part-before = part-there filed streams n of small (map (before_part e) switched) (is_crossed_known switched ads events past e) within ∙ get-map (before_part e) switched n pid waiting there

      turned-plan : plan_turned e t (is_played ads e) n (plan_known switched ads events past e)
          ≡ record { parts = padded (slice_set (map (before_part e) switched) n (at_stage turn_stage (before_part e pid))); is_crossed = crossed_then }
      turned-plan =
          ap (λ (x : Part). record { parts = slice_set (padded (map (before_part e) switched)) (n % 8) (at_stage (turned e t (is_played ads e) x.stage) x); is_crossed = is_crossed_known switched ads events past e || crosses e t x.stage }) part-before
          ∙ ap (λ m. record { parts = slice_set (padded (map (before_part e) switched)) m (at_stage turn_stage (before_part e pid)); is_crossed = crossed_then }) small
          ∙ ap (λ ps. record { parts = ps; is_crossed = crossed_then }) (padded-set (map (before_part e) switched) n (at_stage turn_stage (before_part e pid)) within)

      pub turned-there : part_of (plan_turned e t (is_played ads e) n (plan_known switched ads events past e)) n ≡ at_stage turn_stage (before_part e pid)
      turned-there =
          ap (λ plan. part_of plan n) turned-plan
          ∙ part-there filed streams n of small (slice_set (map (before_part e) switched) n (at_stage turn_stage (before_part e pid))) crossed_then
          (let l = length-set (map (before_part e) switched) n (at_stage turn_stage (before_part e pid)) in let w = within in omega (arith, l, w))
          ∙ get-set (map (before_part e) switched) n (at_stage turn_stage (before_part e pid)) waiting within

      pub closes-is : closes_in n (plan_turned e t (is_played ads e) n (plan_known switched ads events past e)) ≡ (flag_closed e pid (p ∷ past) && not (flag_closed e pid past))
      closes-is = ap (λ (x : Part). is_closing x.stage) turned-there ∙ closing-turned

      crossed-is : crossed_then ≡ is_crossed_known switched ads events (p ∷ past) e
      crossed-is = any-set switched n pid (λ q. crossed_known (stream switched q) (as_played e) (known e) past) (λ q. crossed_known (stream switched q) (as_played e) (known e) (p ∷ past)) (crosses e t (stage_at e pid past)) there
          (stamped-crossed (stream switched pid) ads e (known e) (falls h e n pid there) p past told.before told.now b t time_is up)
          (λ j q is z. sym (crossed-stays (stream switched q) (as_played e) (known e) p past (others j q is z)))

      pub plan-stamped : closed_plan filed streams n of (e, plan_turned e t (is_played ads e) n (plan_known switched ads events past e)) ≡ mixed_plan 0 e
      plan-stamped =
          ap (λ plan. closed_plan filed streams n of (e, plan)) turned-plan
          ∙ closed-by filed streams n of small e (map (before_part e) switched) crossed_then turn_stage (before_part e pid) within
          ∙ ap (λ ps. record { parts = padded ps; is_crossed = crossed_then }) (map-set switched n pid (before_part e) (mid_part e) (closed_part filed streams n of small e turn_stage (before_part e pid)) there part-is
          (λ j q is z. part-stays j q is (others j q is z)))
          ∙ ap (λ c. record { parts = padded (mixed_parts 0 e); is_crossed = c }) crossed-is

    -- ---- one stream runs on

    module _ (i q : ℕ) (small : i % 8 ≡ i) (of : Stream) (o : IsOf i q of) where
      as-many : length (map (now_part e) switched) ≡ length (map (mid_part e) switched)
      as-many = length-map switched (now_part e) ∙ sym (length-map switched (mid_part e))

      in-now : i < length (map (now_part e) switched)
      in-now = let l = slice_get_within switched i q o.there in let m = length-map switched (now_part e) in omega (arith, l, m)

      in-mixed : i < length (mixed_parts i e)
      in-mixed = let l = length-mixed (map (now_part e) switched) (map (mid_part e) switched) i as-many in let w = in-now in omega (arith, l, w)

      pub mid-there : part_of (mixed_plan i e) i ≡ mid_part e q
      mid-there = part-there filed streams i of small (mixed_parts i e) (is_crossed_known switched ads events (p ∷ past) e) in-mixed
          ∙ get-mixed (map (now_part e) switched) (map (mid_part e) switched) i waiting in-now as-many ∙ get-map (mid_part e) switched i q waiting o.there

      pub runs-is : runs_in filed streams i of (e, mixed_plan i e) ≡ (flag_begun e q (p ∷ past) && not (flag_closed e q (p ∷ past)))
      runs-is = ap (λ (x : Part). is_running x.stage) mid-there ∙ running-flags (flag_closed e q (p ∷ past)) (flag_begun e q (p ∷ past))

      now-set : (x : Part) → x ≡ now_part e q → slice_set (mixed_parts i e) i x ≡ mixed_parts (i + 1) e
      now-set x is = set-mixed (map (now_part e) switched) (map (mid_part e) switched) i x in-now as-many (is ∙ sym (get-map (now_part e) switched i q x o.there))

      pub plan-runs : (flag_begun e q (p ∷ past) && not (flag_closed e q (p ∷ past))) ≡ true → ran_plan filed streams i of (high switched (p ∷ past)) (e, mixed_plan i e) ≡ mixed_plan (i + 1) e
      plan-runs y =
          let flags = shut-flags (flag_begun e q (p ∷ past)) (flag_closed e q (p ∷ past)) y in
          let long = running-length (begins_one switched) (stream switched q) (pids_are_streams switched q) (switched_pids_are_within switched q (contained switched i q o.there)) e (known e) (ads.units e q) (falls h e i q o.there)
          p past turn (now-end q i o.there) (filed e.program) of.kind (count_of_kind of.kind (take i streams)) (slice-is e i q of o) flags.0 flags.1 in
          let far = reached_by (high switched (p ∷ past)) e in
          let c = is_crossed_known switched ads events (p ∷ past) e in
          let sent : (mid_part e q).sent ≡ length (sent_at e q past) = pick-second _ _ (flag_closed e q (p ∷ past)) flags.1 in
          let stage : stage_at e q (p ∷ past) ≡ Running = ap (λ c. stage_by c (flag_begun e q (p ∷ past))) flags.1 ∙ ap (stage_by false) flags.0 in
          ap (λ m. record { parts = slice_set (padded (mixed_parts i e)) m (record { stage = Running; sent = (part_of (mixed_plan i e) i).sent + left_of filed streams i of small e (part_of (mixed_plan i e) i).sent far }); is_crossed = c }) small
          ∙ ap (λ (x : Part). record { parts = slice_set (padded (mixed_parts i e)) i (record { stage = Running; sent = x.sent + left_of filed streams i of small e x.sent far }); is_crossed = c }) mid-there
          ∙ ap (λ s. record { parts = slice_set (padded (mixed_parts i e)) i (make Running (s + left_of filed streams i of small e s far)); is_crossed = c }) sent
          ∙ ap (λ ps. record { parts = ps; is_crossed = c })
          (padded-set (mixed_parts i e) i (make Running (length (sent_at e q past) + left_of filed streams i of small e (length (sent_at e q past)) far)) in-mixed
          ∙ ap padded (now-set (make Running (length (sent_at e q past) + left_of filed streams i of small e (length (sent_at e q past)) far)) (ap (make Running) (sym long) ∙ ap (λ s. make s (length (sent_at e q (p ∷ past)))) (sym stage))))

      mid-now : (flag_begun e q (p ∷ past) && not (flag_closed e q (p ∷ past))) ≡ false → now_part e q ≡ mid_part e q
      mid-now y = ap (make (stage_at e q (p ∷ past))) (idle-sent (flag_begun e q (p ∷ past)) (flag_closed e q (p ∷ past)) (length (sent_at e q (p ∷ past))) (length (sent_at e q past)) y
          (λ z. ap length (sent-unbegun (begins_one switched) (stream switched q) (pids_are_streams switched q) (as_played e) (known e) (ads.units e q) (falls h e i q o.there) (unturned i q o.there) (still q) p past z)))

      pub plan-idle : (flag_begun e q (p ∷ past) && not (flag_closed e q (p ∷ past))) ≡ false → mixed_plan i e ≡ mixed_plan (i + 1) e
      plan-idle y = ap (λ ps. record { parts = padded ps; is_crossed = is_crossed_known switched ads events (p ∷ past) e })
          (sym (set-same (mixed_parts i e) i waiting (now_part e q) in-mixed (mid-now y ∙ sym (get-mixed (map (now_part e) switched) (map (mid_part e) switched) i waiting in-now as-many ∙ get-map (mid_part e) switched i q waiting o.there)))
          ∙ now-set (now_part e q) refl)

    pub plan-end : (i : ℕ) → i ≡ length switched → mixed_plan i e ≡ plan_known switched ads events (p ∷ past) e
    plan-end i is = ap (λ ps. record { parts = padded ps; is_crossed = is_crossed_known switched ads events (p ∷ past) e })
        (all-mixed (map (now_part e) switched) (map (mid_part e) switched) i (let m = length-map switched (now_part e) in omega (arith, m, is)) (length-map switched (now_part e) ∙ sym (length-map switched (mid_part e))))
