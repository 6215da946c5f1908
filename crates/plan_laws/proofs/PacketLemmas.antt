-- The packets of the event that runs in a stream are those of the moves that put it in.
use Rattle.std.proofs.Common.{◌≡◌, ℕ, ◌%◌, List, [], ◌∷◌, ◌++◌, Bool, true, false, refl, sym, ap, ◌∙◌, Option, if◌then◌else◌, length, take, map}
use Rattle.std.specs.Prelude.{ℤ, flat_map}
use Rattle.std.specs.List.{AllByRecursion}
use Rattle.std.proofs.lemmas.Bool.{true≢false}
use Rattle.std.proofs.lemmas.List.{append-nil}
use Rattle.ts_packet.proofs.Cases.{by_test}
use Rattle.ts_packet.specs.Numbering.{Step}
use Rattle.pes_time.specs.Line.{ring_of}
use Rattle.unit_stream.specs.Times.{begins_one, high}
use Rattle.unit_stream.specs.UnitPackets.{put_in}
use Rattle.psi_tables.specs.declared.stream.Stream.{Stream}
use Rattle.event_table.specs.Standing.{Standing, on_ring}
use Rattle.armed_laws.specs.Laws.{NoneMeet}
use Rattle.ad_library.specs.Advertisements.{AdvertUnit, Advertisement, count_of_kind}
use Rattle.splice_laws.specs.Splicing.{SliceUnit, stream}
use Rattle.splice_laws.proofs.PidLemmas.{pids_are_streams}
use Rattle.splice_laws.proofs.SettledLemmas.{switched_pids_are_within}
use Rattle.splice_plans.specs.Counters.{PidSteps, counted_after, out_behind}
use Rattle.splice_plans.specs.declared.plan.Part.{Part}
use Rattle.splice_plans.specs.declared.plan.Plan.{Plan}
use Rattle.splice_plans.specs.Playing.{History, as_played, running_at}
use Rattle.splice_plans.specs.Histories.{IsHistory}
use Rattle.splice_plans.specs.Adverts.{packed_units}
use Rattle.splice_plans.specs.Slicing.{slice_packets}
use Rattle.splice_plans.specs.Parts.{beside, delta_in, packets_in, pair_packets, found_packets, running_packets, runs_in, reached_by}
use Rattle.splice_plans.proofs.KnownLemmas.{contained}
use Rattle.plan_laws.proofs.DueLemmas.{running-none}
use Rattle.plan_laws.proofs.PlayedLemmas.{put_on, as_played_units, rest_filed, rest-packets, rest-steps}
use Rattle.plan_laws.proofs.EventLemmas.{running-is}
use Rattle.plan_laws.proofs.PlanLemmas.{switched, ads, known, sent_at, flag_closed, IsOf, falls, slice-is, now-end, mid-there, runs-is, pick-second, shut-flags, none-begins}
use Rattle.plan_laws.proofs.RunningLemmas.{TellsOf, runs_on, mixed, NoneRun, others-idle}

module _ (filed : ℕ → Option Advertisement) (streams : List Stream) (events : History) (p : List ℕ) (past : List (List ℕ))
    (h : IsHistory (high (switched filed streams events p past)) events) (turn : begins_one (switched filed streams events p past) p past ≡ true) where
  abbrev pids : List ℕ
  pids = switched filed streams events p past

  abbrev top : Option ℤ
  top = high pids (p ∷ past)

  abbrev Tells : Standing → Type 0
  Tells e = TellsOf filed streams events p past h turn e

  abbrev plan : ℕ → Standing → Plan
  plan i e = mixed filed streams events p past h turn i e

  -- what goes out of an event that runs on the PID
  abbrev pub rule : ℕ → Standing → List SliceUnit
  rule q e = running_at (begins_one pids) (stream pids q) (as_played e) (known filed streams events p past e) ((ads filed streams events p past).units e q) p past

  module _ (i q : ℕ) (small : i % 8 ≡ i) (of : Stream) (o : IsOf filed streams events p past i q of) (done : PidSteps) where
    abbrev steps : List Step
    steps = done q

    abbrev out : Standing → ℕ
    out e = length (sent_at filed streams events p past e q past)

    abbrev left : Standing → List AdvertUnit
    left e = rest_filed e.start of.kind (count_of_kind of.kind (take i streams)) e.length (filed e.program) (out e) (reached_by top e)

    rule-is : (e : Standing) → Tells e → runs_on filed streams events p past h turn q e ≡ true → rule q e ≡ as_played_units e.start (filed e.program) (left e)
    rule-is e told y =
        let flags = shut-flags _ _ y in
        running-is (begins_one pids) (stream pids q) (pids_are_streams pids q) (switched_pids_are_within pids q (contained pids i q o.there)) e (known filed streams events p past e) ((ads filed streams events p past).units e q)
        (falls filed streams events p past h e i q o.there) p past turn (now-end filed streams events p past h turn e told q i o.there)
        (filed e.program) of.kind (count_of_kind of.kind (take i streams)) (slice-is filed streams events p past e i q of o) flags.0 flags.1

    packets-are : (e : Standing) → Tells e → runs_on filed streams events p past h turn q e ≡ true
        → pair_packets filed streams i of (reached_by top e) steps (e, plan i e) ≡ slice_packets q (delta_in (ring_of e.start) (filed e.program)) steps (left e)
    packets-are e told y =
        let flags = shut-flags _ _ y in
        ap (λ (x : Part). packets_in filed streams i of (on_ring e) x.sent (reached_by top e) steps) (mid-there filed streams events p past h turn e told i q small of o)
        ∙ ap (λ s. packets_in filed streams i of (on_ring e) s (reached_by top e) steps) (pick-second _ _ (flag_closed filed streams events p past e q (p ∷ past)) flags.1)
        ∙ ap (λ z. slice_packets z (delta_in (ring_of e.start) (filed e.program)) steps (left e)) o.pid_is

    one-out : (e : Standing) → Tells e → runs_on filed streams events p past h turn q e ≡ true
        → pair_packets filed streams i of (reached_by top e) steps (e, plan i e) ≡ out_behind packed_units done (put_on q (rule q e))
    one-out e told y =
        packets-are e told y
        ∙ sym (rest-packets e.start of.kind (count_of_kind of.kind (take i streams)) e.length (filed e.program) (out e) (reached_by top e) q done)
        ∙ ap (λ us. out_behind packed_units done (put_on q us)) (sym (rule-is e told y))

    one-steps : (e : Standing) → Tells e → runs_on filed streams events p past h turn q e ≡ true
        → ((counted_after packed_units done (put_on q (rule q e))) q) ≡ put_in (pair_packets filed streams i of (reached_by top e) steps (e, plan i e)) steps
    one-steps e told y =
        ap (λ us. ((counted_after packed_units done (put_on q us)) q)) (rule-is e told y)
        ∙ rest-steps e.start of.kind (count_of_kind of.kind (take i streams)) e.length (filed e.program) (out e) (reached_by top e) q done
        ∙ ap (λ ps. put_in ps steps) (sym (packets-are e told y))

    pub rule-none : (e : Standing) → runs_on filed streams events p past h turn q e ≡ false → rule q e ≡ []
    rule-none e y =
        running-none (begins_one pids) (stream pids q) (pids_are_streams pids q) (as_played e) (known filed streams events p past e) ((ads filed streams events p past).units e q)
        (falls filed streams events p past h e i q o.there) (λ p past b. none-begins pids i q p past o.there b) (λ p past b. simp b refl) p past y

    pub none-rules : (es : List Standing) → NoneRun filed streams events p past h turn i q o.there es → flat_map (rule q) es ≡ []
    none-rules [] n = refl
    none-rules (e ∷ es) n = ap (λ us. us ++ flat_map (rule q) es) (rule-none e n.0) ∙ none-rules es n.1

    abbrev found : List Standing → List (List ℕ)
    found es = running_packets filed streams i of top steps (beside es (map (plan i) es))

    pub all-found : (es : List Standing) → AllByRecursion Tells es → NoneMeet es
        → (found es ≡ out_behind packed_units done (put_on q (flat_map (rule q) es))) × (((counted_after packed_units done (put_on q (flat_map (rule q) es))) q) ≡ put_in (found es) steps)
    all-found [] told m = (refl, refl)
    all-found (e ∷ es) told m = by_test (runs_on filed streams events p past h turn q e) runs (idle (all-found es told.1 m.2))
      where
        here : runs_on filed streams events p past h turn q e ≡ true → found (e ∷ es) ≡ pair_packets filed streams i of (reached_by top e) steps (e, plan i e)
        here y = ap (found_packets filed streams i of top steps) (pick-first _ _ (runs_in filed streams i of (e, plan i e)) (runs-is filed streams events p past h turn e told.0 i q small of o ∙ y))
          where
            pick-first : (x y : Option (Standing × Plan)) (b : Bool) → b ≡ true → (if b then x else y) ≡ x
            pick-first x y true h = refl
            pick-first x y false h = absurd (true≢false (sym h))

        later : runs_on filed streams events p past h turn q e ≡ false → found (e ∷ es) ≡ found es
        later y = ap (found_packets filed streams i of top steps) (pick-later _ _ (runs_in filed streams i of (e, plan i e)) (runs-is filed streams events p past h turn e told.0 i q small of o ∙ y))
          where
            pick-later : (x y : Option (Standing × Plan)) (b : Bool) → b ≡ false → (if b then x else y) ≡ y
            pick-later x y true h = absurd (true≢false h)
            pick-later x y false h = refl

        only : runs_on filed streams events p past h turn q e ≡ true → flat_map (rule q) (e ∷ es) ≡ rule q e
        only y = ap (λ us. rule q e ++ us) (none-rules es (others-idle filed streams events p past h turn i q o.there e told.0 y es told.1 m.1)) ∙ append-nil (rule q e)

        rest : runs_on filed streams events p past h turn q e ≡ false → flat_map (rule q) (e ∷ es) ≡ flat_map (rule q) es
        rest y = ap (λ us. us ++ flat_map (rule q) es) (rule-none e y)

        runs : runs_on filed streams events p past h turn q e ≡ true
            → (found (e ∷ es) ≡ out_behind packed_units done (put_on q (flat_map (rule q) (e ∷ es)))) × (((counted_after packed_units done (put_on q (flat_map (rule q) (e ∷ es)))) q) ≡ put_in (found (e ∷ es)) steps)
        runs y = (
          here y ∙ one-out e told.0 y ∙ ap (λ us. out_behind packed_units done (put_on q us)) (sym (only y)),
          ap (λ us. ((counted_after packed_units done (put_on q us)) q)) (only y) ∙ one-steps e told.0 y ∙ ap (λ ps. put_in ps steps) (sym (here y)),
        )

        idle : (found es ≡ out_behind packed_units done (put_on q (flat_map (rule q) es))) × (((counted_after packed_units done (put_on q (flat_map (rule q) es))) q) ≡ put_in (found es) steps)
            → runs_on filed streams events p past h turn q e ≡ false
            → (found (e ∷ es) ≡ out_behind packed_units done (put_on q (flat_map (rule q) (e ∷ es)))) × (((counted_after packed_units done (put_on q (flat_map (rule q) (e ∷ es)))) q) ≡ put_in (found (e ∷ es)) steps)
        idle i y = (
          later y ∙ i.0 ∙ ap (λ us. out_behind packed_units done (put_on q us)) (sym (rest y)),
          ap (λ us. ((counted_after packed_units done (put_on q us)) q)) (rest y) ∙ i.1 ∙ ap (λ ps. put_in ps steps) (sym (later y)),
        )
