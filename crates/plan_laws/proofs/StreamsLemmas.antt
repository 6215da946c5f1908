-- What goes out of the events that run, stream by stream, is what the moves put in.
use Rattle.std.proofs.Common.{◌≡◌, ℕ, ◌+◌, ◌==◌, ◌%◌, ◌≤◌, List, [], ◌∷◌, ◌++◌, true, false, inl, inr, refl, sym, ap, ◌∙◌, Option, Some, arith, map}
use Rattle.std.specs.Prelude.{slice_get, flat_map}
use Rattle.std.specs.List.{AllByRecursion}
use Rattle.std.proofs.lemmas.Bool.{true≢false}
use Rattle.std.proofs.lemmas.Bool.Decides.{nat_tests}
use Rattle.ts_packet.proofs.Cases.{by_test}
use Rattle.ts_packet.specs.Numbering.{Step}
use Rattle.unit_stream.specs.Times.{begins, begins_one, high}
use Rattle.psi_tables.specs.declared.stream.Stream.{Stream}
use Rattle.event_table.specs.Standing.{Standing, stands}
use Rattle.armed_events.specs.Arming.{standing_at}
use Rattle.armed_laws.specs.Laws.{NoneMeet}
use Rattle.ad_library.specs.Advertisements.{Advertisement}
use Rattle.splice_laws.specs.Splicing.{SliceUnit, stream}
use Rattle.splice_laws.proofs.PidLemmas.{pids_are_streams}
use Rattle.splice_plans.specs.Counters.{PidSteps, counted_after, out_behind}
use Rattle.splice_plans.specs.declared.plan.Plan.{Plan}
use Rattle.splice_plans.specs.Playing.{Adverts, History, is_played, played, as_played}
use Rattle.splice_plans.specs.Switching.{puts_by}
use Rattle.splice_plans.specs.Histories.{IsHistory}
use Rattle.splice_plans.specs.Adverts.{adverts_of, packed_units}
use Rattle.splice_plans.specs.Parts.{beside, ran_plans, running_packets}
use Rattle.splice_plans.specs.Fronts.{all_running}
use Rattle.splice_plans.specs.Known.{AreSeparate}
use Rattle.program_follower.specs.Faults.{pids_in}
use Rattle.ts_packet.proofs.FieldLemmas.{among-get}
use Rattle.plan_laws.proofs.ToldLemmas.{Told}
use Rattle.plan_laws.proofs.PartLemmas.{small-number}
use Rattle.plan_laws.proofs.DueLemmas.{forgotten-running}
use Rattle.plan_laws.proofs.PlayedLemmas.{put_on, out-append, steps-other}
use Rattle.plan_laws.proofs.PlanLemmas.{known, falls, none-begins, IsOf}
use Rattle.plan_laws.proofs.RunningLemmas.{runs_on, mixed, AllOf, others-idle, played-run, all-run}
use Rattle.plan_laws.proofs.PacketLemmas.{rule, all-found, none-rules, rule-none}
use Rattle.plan_laws.proofs.OrderLemmas.{AreAlone, sorted-same}
use Rattle.plan_laws.proofs.StandingLemmas.{once-place}
use Rattle.plan_laws.proofs.RunLemmas.{turn, told, apart, all-are-told}

module _ (filed : ℕ → Option Advertisement) (streams : List Stream) (events : History) (p : List ℕ) (past : List (List ℕ))
    (h : IsHistory (high (pids_in streams)) events) (stay : events (p ∷ past) ≡ events past) (s : AreSeparate (pids_in streams)) (n pid : ℕ) (there : slice_get (pids_in streams) n ≡ Some pid) (b : begins pid p past ≡ true) where
  abbrev pids : List ℕ
  pids = pids_in streams

  abbrev pub ads : Adverts
  ads = adverts_of filed streams

  abbrev pub es : List Standing
  es = standing_at (high pids past) (events past)

  abbrev pub turned : begins_one pids p past ≡ true
  turned = turn filed streams events p past h stay s n pid there b

  abbrev told_all : AllByRecursion (Told pids ads events p past) (events past)
  told_all = all-are-told filed streams events p past h stay s n pid there b

  abbrev pub plan : ℕ → Standing → Plan
  plan i e = mixed filed streams events p past h turned i e

  abbrev pub put : ℕ → Standing → List SliceUnit
  put q e = rule filed streams events p past h turned q e

  -- ---- of one stream

  module _ (i q : ℕ) (small : i % 8 ≡ i) (of : Stream) (o : IsOf filed streams events p past i q of) where
    none-idle : (e : Standing) → runs_on filed streams events p past h turned q e ≡ false → put q e ≡ []
    none-idle e y = rule-none filed streams events p past h turned i q small of o (λ n. []) e y

    not-played : (evs : List Standing) → AllByRecursion (Told pids ads events p past) evs → AllByRecursion (λ e. is_played ads e ≡ false → put q e ≡ []) evs
    not-played [] t = tt
    not-played (e ∷ evs) t = (λ n. none-idle e (by_test (runs_on filed streams events p past h turned q e) (λ y. absurd (true≢false (sym (played-run filed streams events p past h turned i q o.there e t.0 y) ∙ n))) (λ z. z)), not-played evs t.1)

    not-standing : (evs : List Standing) → AllByRecursion (Told pids ads events p past) evs → AllByRecursion (λ e. stands (high pids past) e ≡ false → put q e ≡ []) evs
    not-standing [] t = tt
    not-standing (e ∷ evs) t = (
      λ out. forgotten-running (begins_one pids) (stream pids q) (pids_are_streams pids q) (as_played e) (known filed streams events p past e) (ads.units e q) (falls filed streams events p past h e i q o.there)
          (λ p past b. none-begins pids i q p past o.there b) (λ p past b. simp b refl) p past ads e refl (t.0).before (t.0).now out,
      not-standing evs t.1,
    )

    alone-all : (evs : List Standing) → AllByRecursion (Told pids ads events p past) evs → NoneMeet evs → AreAlone (put q) evs
    alone-all [] t m = tt
    alone-all (e ∷ evs) t m = (
      by_test (runs_on filed streams events p past h turned q e)
          (λ y. inr (none-rules filed streams events p past h turned i q small of o (λ n. []) evs (others-idle filed streams events p past h turned i q o.there e t.0 y evs t.1 m.1)))
          (λ y. inl (none-idle e y)),
      alone-all evs t.1 m.2,
    )

    pub puts-same : flat_map (put q) (played ads (events past)) ≡ flat_map (put q) es
    puts-same = sorted-same (put q) (is_played ads) (stands (high pids past)) (events past) (not-played (events past) told_all) (not-standing (events past) told_all) (alone-all (events past) told_all (h.apart past))

  -- ---- of all streams

  test-true : (a c : ℕ) → (a == c) ≡ true → a ≡ c
  test-true a c k = grind (arith, nat_tests)

  differ : (i j a c : ℕ) → slice_get pids i ≡ Some a → slice_get pids j ≡ Some c → i + 1 ≤ j → (a == c) ≡ false
  differ i j a c x y l = by_test (a == c)
      (λ t. let same : a ≡ c = test-true a c t in
      let here : slice_get pids i ≡ Some c = x ∙ ap (λ z. let o : Option ℕ = Some z in o) same in
      let e : i ≡ j = once-place pids c i j (s.alone c (among-get pids j c y)) here y in
      absurd (omega (arith, e, l)))
      (λ t. t)

  abbrev pub Counted : ℕ → (ℕ → List Step) → PidSteps → Type 0
  Counted i steps done = (j q : ℕ) → slice_get pids j ≡ Some q → i ≤ j → steps j ≡ done q

  pub all-put : (rest : List Stream) (i : ℕ) → AllOf filed streams events p past h turned i rest → (done : PidSteps) (steps : ℕ → List Step) → Counted i steps done
      → all_running filed streams (high pids (p ∷ past)) es steps (map (plan i) es) i rest ≡ out_behind packed_units done (puts_by (pids_in rest) (played ads (events past)) put)
  all-put [] i all done steps c = refl
  all-put (of ∷ rest) i all done steps c =
      let q = of.pid in
      let o = all.1 in
      let small = small-number i all.0 in
      let t = told filed streams events p past h stay s n pid there b in
      let a = apart filed streams events p past h stay s n pid there b in
      let X = put_on q (flat_map (put q) (played ads (events past))) in
      let later = puts_by (pids_in rest) (played ads (events past)) put in
      let now : running_packets filed streams i of (high pids (p ∷ past)) (steps i) (beside es (map (plan i) es)) ≡ out_behind packed_units done X
      = ap (λ st. running_packets filed streams i of (high pids (p ∷ past)) st (beside es (map (plan i) es))) (c i q o.there (omega arith))
      ∙ (all-found filed streams events p past h turned i q small of o done es t a).0
      ∙ ap (λ us. out_behind packed_units done (put_on q us)) (sym (puts-same i q small of o)) in
      let next : Counted (i + 1) steps (counted_after packed_units done X)
      = λ j z y l. c j z y (omega (arith, l)) ∙ sym (steps-other packed_units q z done (flat_map (put q) (played ads (events past))) (differ i j q z o.there y l)) in
      ap (λ ps. ps ++ all_running filed streams (high pids (p ∷ past)) es steps (ran_plans filed streams i of (high pids (p ∷ past)) (beside es (map (plan i) es))) (i + 1) rest) now
      ∙ ap (λ ps. out_behind packed_units done X ++ ps)
      (ap (λ plans. all_running filed streams (high pids (p ∷ past)) es steps plans (i + 1) rest) (all-run filed streams events p past h turned i q o.there small of o es t a)
      ∙ all-put rest (i + 1) all.2 (counted_after packed_units done X) steps next)
      ∙ sym (out-append packed_units done X later)
