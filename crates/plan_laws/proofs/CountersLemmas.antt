-- The counter of each stream has counted what ran out in it.
use Rattle.std.proofs.Common.{◌≡◌, ℕ, ◌+◌, ◌==◌, ◌<◌, ◌≤◌, List, [], ◌∷◌, ◌++◌, true, false, refl, sym, ap, ◌∙◌, Option, Some, arith, map, length}
use Rattle.std.specs.Prelude.{slice_get, flat_map}
use Rattle.std.proofs.lemmas.Bool.Decides.{nat_tests}
use Rattle.ts_packet.proofs.Cases.{by_test}
use Rattle.ts_packet.specs.Numbering.{Step}
use Rattle.unit_stream.specs.Times.{begins, high}
use Rattle.unit_stream.specs.UnitPackets.{put_in}
use Rattle.psi_tables.specs.declared.stream.Stream.{Stream}
use Rattle.event_table.specs.Standing.{Standing}
use Rattle.ad_library.specs.Advertisements.{Advertisement}
use Rattle.splice_laws.specs.Splicing.{SliceUnit}
use Rattle.splice_plans.specs.Counters.{PidSteps, counted_after}
use Rattle.splice_plans.specs.declared.plan.Plan.{Plan}
use Rattle.splice_plans.specs.Playing.{History, played}
use Rattle.splice_plans.specs.Switching.{puts_by}
use Rattle.splice_plans.specs.Histories.{IsHistory}
use Rattle.splice_plans.specs.Adverts.{packed_units}
use Rattle.splice_plans.specs.Parts.{beside, ran_plans, running_packets}
use Rattle.splice_plans.specs.Fronts.{running_of}
use Rattle.splice_plans.specs.Known.{AreSeparate}
use Rattle.program_follower.specs.Faults.{pids_in}
use Rattle.ts_packet.proofs.FieldLemmas.{among-get}
use Rattle.plan_laws.proofs.PartLemmas.{small-number}
use Rattle.plan_laws.proofs.PlayedLemmas.{put_on, counted-append, steps-other}
use Rattle.plan_laws.proofs.RunningLemmas.{AllOf, all-run}
use Rattle.plan_laws.proofs.PacketLemmas.{all-found}
use Rattle.plan_laws.proofs.StandingLemmas.{once-place}
use Rattle.plan_laws.proofs.RunLemmas.{told, apart}
use Rattle.plan_laws.proofs.StreamsLemmas.{ads, es, turned, plan, put, puts-same, Counted}

module _ (filed : ℕ → Option Advertisement) (streams : List Stream) (events : History) (p : List ℕ) (past : List (List ℕ))
    (h : IsHistory (high (pids_in streams)) events) (stay : events (p ∷ past) ≡ events past) (s : AreSeparate (pids_in streams)) (n pid : ℕ) (there : slice_get (pids_in streams) n ≡ Some pid) (b : begins pid p past ≡ true) where
  abbrev pids : List ℕ
  pids = pids_in streams

  abbrev standing : List Standing
  standing = es filed streams events p past h stay s n pid there b

  abbrev plans_then : ℕ → Standing → Plan
  plans_then i e = plan filed streams events p past h stay s n pid there b i e

  abbrev puts : ℕ → Standing → List SliceUnit
  puts q e = put filed streams events p past h stay s n pid there b q e

  abbrev all_played : List Standing
  all_played = played (ads filed streams events p past h stay s n pid there b) (events past)

  test-true : (a c : ℕ) → (a == c) ≡ true → a ≡ c
  test-true a c k = grind (arith, nat_tests)

  test-same : (a : ℕ) → (a == a) ≡ true
  test-same a = grind (arith, nat_tests)

  apart-pids : (i j a c : ℕ) → slice_get pids i ≡ Some a → slice_get pids j ≡ Some c → (i ≡ j → ⊥) → (a == c) ≡ false
  apart-pids i j a c x y differ = by_test (a == c)
      (λ t. let same : a ≡ c = test-true a c t in
      let here : slice_get pids i ≡ Some c = x ∙ ap (λ z. let o : Option ℕ = Some z in o) same in
      absurd (differ (once-place pids c i j (s.alone c (among-get pids j c y)) here y)))
      (λ t. t)

  -- what is put on later streams leaves an earlier one's counter
  later-leave : (rest : List Stream) (i j q : ℕ) → AllOf filed streams events p past h (turned filed streams events p past h stay s n pid there b) i rest → slice_get pids j ≡ Some q → j < i → (done : PidSteps)
      → ((counted_after packed_units done (puts_by (pids_in rest) all_played puts)) q) ≡ done q
  later-leave [] i j q all y l done = refl
  later-leave (of ∷ rest) i j q all y l done =
      let X = put_on of.pid (flat_map (puts of.pid) all_played) in
      let off : (of.pid == q) ≡ false = apart-pids i j of.pid q (all.1).there y (λ e. absurd (omega (arith, e, l))) in
      ap (λ (f : PidSteps). f q) (counted-append done X (puts_by (pids_in rest) all_played puts))
      ∙ later-leave rest (i + 1) j q all.2 y (omega (arith, l)) (counted_after packed_units done X) ∙ steps-other packed_units of.pid q done (flat_map (puts of.pid) all_played) off

  pub all-counted : (rest : List Stream) (i : ℕ) (all : AllOf filed streams events p past h (turned filed streams events p past h stay s n pid there b) i rest) (done : PidSteps) (steps : ℕ → List Step)
      → Counted filed streams events p past h stay s n pid there b i steps done → (j q : ℕ) → slice_get pids j ≡ Some q → i ≤ j → j < i + length rest
      → put_in (running_of filed streams (high pids (p ∷ past)) standing steps (map (plans_then i) standing) i rest j) (steps j) ≡ ((counted_after packed_units done (puts_by (pids_in rest) all_played puts)) q)
  all-counted [] i all done steps c j q y low l = absurd (omega (arith, low, l))
  all-counted (of ∷ rest) i all done steps c j q y low l =
      let w = turned filed streams events p past h stay s n pid there b in
      let z = of.pid in
      let o = all.1 in
      let small = small-number i all.0 in
      let t = told filed streams events p past h stay s n pid there b in
      let a = apart filed streams events p past h stay s n pid there b in
      let X = put_on z (flat_map (puts z) all_played) in
      let later = puts_by (pids_in rest) all_played puts in
      let top = high pids (p ∷ past) in
      let ran = ran_plans filed streams i of top (beside standing (map (plans_then i) standing)) in
      by_test (i == j)
      (λ e.
      let same : i ≡ j = test-true i j e in
      let pid_is : Some z ≡ Some q = sym o.there ∙ ap (slice_get pids) same ∙ y in
      let is : z ≡ q = cc in
      let found = all-found filed streams events p past h w i z small of o done standing t a in
      let st : steps i ≡ done z = c i z o.there (omega arith) in
      simp e (ap (λ m. put_in (running_packets filed streams i of top (steps i) (beside standing (map (plans_then i) standing))) (steps m)) (sym same)
      ∙ ap (λ g. put_in (running_packets filed streams i of top g (beside standing (map (plans_then i) standing))) g) st
      ∙ sym found.1
      ∙ ap (λ us. ((counted_after packed_units done (put_on z us)) z)) (sym (puts-same filed streams events p past h stay s n pid there b i z small of o))
      ∙ sym (later-leave rest (i + 1) i z all.2 o.there (omega arith) (counted_after packed_units done X))
      ∙ ap (λ (f : PidSteps). f z) (sym (counted-append done X later))
      ∙ ap (λ m. ((counted_after packed_units done (X ++ later)) m)) is))
      (λ e.
      let next : Counted filed streams events p past h stay s n pid there b (i + 1) steps (counted_after packed_units done X)
      = λ j m y l. c j m y (omega (arith, l)) ∙ sym (steps-other packed_units z m done (flat_map (puts z) all_played) (apart-pids i j z m o.there y (λ k. absurd (omega (arith, k, l))))) in
      let beyond : i + 1 ≤ j = over i j e low in
      simp e (ap (λ plans. put_in (running_of filed streams top standing steps plans (i + 1) rest j) (steps j)) (all-run filed streams events p past h w i z o.there small of o standing t a)
      ∙ all-counted rest (i + 1) all.2 (counted_after packed_units done X) steps next j q y beyond (omega (arith, l))
      ∙ ap (λ (f : PidSteps). f q) (sym (counted-append done X later))))
    where
      over : (i j : ℕ) → (i == j) ≡ false → i ≤ j → i + 1 ≤ j
      over i j e l = grind (arith, nat_tests, e, l)
