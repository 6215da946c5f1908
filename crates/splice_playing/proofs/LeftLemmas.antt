-- What is left at the end of the events of a past: in each stream at most one event runs, and the rest of its slice goes out.
use Rattle.std.proofs.Common.{◌≡◌, ℕ, ◌%◌, ◌<◌, List, [], ◌∷◌, ◌++◌, Bool, true, false, not, ◌&&◌, inl, inr, refl, sym, ap, ◌∙◌, Option, None, Some, arith, length, drop, take, map}
use Rattle.std.specs.Prelude.{ℤ, pos, ◌+ℤ◌, int_lt, slice_get, find, flat_map, option_map, Contains}
use Rattle.std.specs.List.{AllByRecursion}
use Rattle.std.specs.Ordering.{int_eq}
use Rattle.std.proofs.lemmas.Int.{ints}
use Rattle.std.proofs.lemmas.Bool.{true≢false}
use Rattle.std.proofs.lemmas.List.{append-nil, length-map}
use Rattle.std.proofs.lemmas.List.Elements.{recursion_from_All}
use Rattle.std.proofs.Math.Seq.{drop-length}
use lib.Signed.{le_z}
use Rattle.ts_packet.proofs.Cases.{by_test}
use Rattle.ts_packet.specs.Numbering.{Step}
use Rattle.pes_time.specs.Line.{ring_of}
use Rattle.unit_stream.specs.Times.{begins_one, high}
use Rattle.psi_tables.specs.declared.stream.Stream.{Stream}
use Rattle.event_table.specs.Standing.{Standing, end_of, on_ring, stands}
use Rattle.armed_events.specs.Arming.{standing_at}
use Rattle.armed_laws.specs.Laws.{AreApart, IsApartOf, NoneMeet}
use Rattle.ad_library.specs.Advertisements.{AdvertUnit, Advertisement, count_of_kind}
use Rattle.splice_laws.specs.Splicing.{SliceUnit, stream, begun, closed, at_or_past}
use Rattle.splice_laws.specs.Settled.{begun_now, closed_now}
use Rattle.splice_laws.specs.Ends.{up_to_end}
use Rattle.splice_laws.proofs.PidLemmas.{pids_are_streams}
use Rattle.splice_laws.proofs.HistoryLemmas.{alone}
use Rattle.splice_plans.specs.Counters.{PidSteps, out_behind}
use Rattle.splice_plans.specs.declared.plan.Part.{Part}
use Rattle.splice_plans.specs.declared.plan.Plan.{Plan}
use Rattle.splice_plans.specs.Playing.{Adverts, History, is_played, played, as_played, end_known, up_to_known, sent_known, left_at_end}
use Rattle.splice_plans.specs.Histories.{IsHistory, IsSettledAt}
use Rattle.splice_plans.specs.Laws.{EndsFall}
use Rattle.splice_plans.specs.Adverts.{adverts_of, packed_units}
use Rattle.splice_plans.specs.Slicing.{slice_packets}
use Rattle.splice_plans.specs.Turning.{waiting, part_of}
use Rattle.splice_plans.specs.Parts.{is_running, beside, delta_in, packets_in, pair_packets, found_packets, running_packets, runs_in}
use Rattle.splice_plans.specs.Known.{part_known, is_crossed_known, plan_known}
use Rattle.splice_plans.proofs.AdvertLemmas.{libraries_are_steady}
use Rattle.splice_plans.proofs.KnownLemmas.{played_settle, contained}
use Rattle.plan_laws.proofs.StageLemmas.{none-begun}
use Rattle.plan_laws.proofs.ToldLemmas.{IsFoundIn, all-found, end_if}
use Rattle.plan_laws.proofs.PartLemmas.{get-map}
use Rattle.plan_laws.proofs.PlayedLemmas.{put_on, as_played_units, rest_filed, rest-all, rest-packets}
use Rattle.plan_laws.proofs.DueLemmas.{all-out}
use Rattle.plan_laws.proofs.PlanLemmas.{IsOf, none-begins, part-there, falls, slice-is, shut-flags, pick-first, pick-second, running-flags}
use Rattle.plan_laws.proofs.RunningLemmas.{none-filter}
use Rattle.plan_laws.proofs.StandingLemmas.{all-filter}
use Rattle.plan_laws.proofs.OrderLemmas.{AreAlone, sorted-same}
use Rattle.program_follower.specs.Faults.{pids_in}
use Rattle.std.proofs.lemmas.Option.{slice_get_within}

-- one that stands no longer has come to its end
end-reached : (e : Standing) (h : Option ℤ) → stands h e ≡ false → at_or_past (end_of e) h ≡ true
end-reached e None s = absurd (true≢false s)
end-reached e (Some h) s = at (end_of e) h s
  where
    at : (stop h : ℤ) → int_lt h (stop +ℤ pos 900000) ≡ false → le_z stop h ≡ true
    at stop h s = grind (arith, ints)

module _ (filed : ℕ → Option Advertisement) (streams : List Stream) (events : History) (past : List (List ℕ)) (h : IsHistory (high (pids_in streams)) events) where
  abbrev pub pids : List ℕ
  pids = pids_in streams

  abbrev pub ads : Adverts
  ads = adverts_of filed streams

  abbrev pub standing_events : List Standing
  standing_events = standing_at (high pids past) (events past)

  abbrev end_at : Standing → List (List ℕ) → Option ℤ
  end_at e = end_known ads events e.start

  abbrev is_begun : ℕ → Standing → Bool
  is_begun q e = begun_now (stream pids q) (as_played e) (end_at e) past

  abbrev is_closed : ℕ → Standing → Bool
  is_closed q e = closed_now (stream pids q) (as_played e) (end_at e) past

  abbrev runs : ℕ → Standing → Bool
  runs q e = is_begun q e && not (is_closed q e)

  abbrev sent : ℕ → Standing → List SliceUnit
  sent q e = sent_known (begins_one pids) (stream pids q) (as_played e) (end_at e) (ads.units e q) past

  -- what is left of an event on the PID
  abbrev pub left : ℕ → Standing → List SliceUnit
  left q e = left_at_end (begins_one pids) (stream pids q) (as_played e) (end_at e) (ads.units e q) past

  abbrev pub plan : Standing → Plan
  plan e = plan_known pids ads events past e

  -- ---- what is known of each event

  record Knows (e : Standing) : Type 0 where
    pub now : end_known ads events e.start past ≡ end_if ads e
    pub settled : (pid : ℕ) → Contains pids pid → IsSettledAt pids pid ads events past e

  end-found : (es : List Standing) (e : Standing) → IsFoundIn (is_played ads) es e → option_map end_of (find (λ y. int_eq y.start e.start && is_played ads y) es) ≡ end_if ads e
  end-found es e f = ap (option_map end_of) f ∙ by_test (is_played ads e) (λ y. simp y) (λ y. simp y)

  know-each : (es : List Standing) → AllByRecursion (IsFoundIn (is_played ads) (events past)) es → ((pid : ℕ) → Contains pids pid → AllByRecursion (IsSettledAt pids pid ads events past) es)
      → AllByRecursion Knows es
  know-each [] f s = tt
  know-each (e ∷ es) f s = (record { now = end-found (events past) e f.0; settled = λ pid c. (s pid c).0 }, know-each es f.1 (λ pid c. (s pid c).1))

  all-known : AllByRecursion Knows (events past)
  all-known = know-each (events past) (all-found (is_played ads) (events past) (h.apart past))
      (λ pid c. recursion_from_All (IsSettledAt pids pid ads events past) (events past) (played_settle pids pid c ads (libraries_are_steady filed streams) events h [] past))

  -- ---- in one stream

  module _ (i q : ℕ) (there : slice_get pids i ≡ Some q) where
    ends-fall : (e : Standing) → EndsFall (stream pids q) (as_played e) (end_at e)
    ends-fall e = falls filed streams events [] past h e i q there

    played-run : (e : Standing) → Knows e → is_begun q e ≡ true → is_played ads e ≡ true
    played-run e knows b = by_test (is_played ads e) (λ y. y)
        (λ n. absurd (true≢false (sym b ∙ none-begun (stream pids q) (as_played e) (end_at e) (ends-fall e) past (knows.now ∙ simp n refl))))

    end-is : (e : Standing) → Knows e → is_begun q e ≡ true → end_at e past ≡ Some (end_of e)
    end-is e knows b = let y = played-run e knows b in knows.now ∙ simp y refl

    not-both : (e x : Standing) → Knows e → Knows x → AreApart e x → runs q e ≡ true → runs q x ≡ true → ⊥
    not-both e x ke kx a y z =
        let fe = shut-flags (is_begun q e) (is_closed q e) y in
        let fx = shut-flags (is_begun q x) (is_closed q x) z in
        let se = ke.settled q (contained pids i q there) (played-run e ke fe.0) in
        let sx = kx.settled q (contained pids i q there) (played-run x kx fx.0) in
        by a (sym se.0 ∙ fe.0) (sym se.1 ∙ fe.1) (sym sx.0 ∙ fx.0) (sym sx.1 ∙ fx.1)
      where
        by : AreApart e x → begun (stream pids q) (as_played e) past ≡ true → closed (stream pids q) (as_played e) past ≡ false
            → begun (stream pids q) (as_played x) past ≡ true → closed (stream pids q) (as_played x) past ≡ false → ⊥
        by (inl l) b c d f = alone (stream pids q) (pids_are_streams pids q) (as_played e) (as_played x) l past b c d f
        by (inr l) b c d f = alone (stream pids q) (pids_are_streams pids q) (as_played x) (as_played e) l past d f b c

    -- none of these runs
    abbrev NoneRun : List Standing → Type 0
    NoneRun [] = Unit {0}
    NoneRun (e ∷ es) = (runs q e ≡ false) × NoneRun es

    others-idle : (e : Standing) → Knows e → runs q e ≡ true → (es : List Standing) → AllByRecursion Knows es → IsApartOf e es → NoneRun es
    others-idle e ke y [] known a = tt
    others-idle e ke y (x ∷ es) known a = (by_test (runs q x) (λ z. absurd (not-both e x ke known.0 a.0 y z)) (λ z. z), others-idle e ke y es known.1 a.1)

    idle-left : (e : Standing) → runs q e ≡ false → left q e ≡ []
    idle-left e y = pick-second (drop (length (sent q e)) (up_to_known (end_at e past) (ads.units e q))) [] (runs q e) y

    run-left : (e : Standing) → Knows e → runs q e ≡ true → left q e ≡ drop (length (sent q e)) (up_to_end (end_of e) (ads.units e q))
    run-left e knows y =
        pick-first (drop (length (sent q e)) (up_to_known (end_at e past) (ads.units e q))) [] (runs q e) y
        ∙ ap (λ o. drop (length (sent q e)) (up_to_known o (ads.units e q))) (end-is e knows (shut-flags (is_begun q e) (is_closed q e) y).0)

    none-left : (es : List Standing) → NoneRun es → flat_map (left q) es ≡ []
    none-left [] n = refl
    none-left (e ∷ es) n = ap (λ us. us ++ flat_map (left q) es) (idle-left e n.0) ∙ none-left es n.1

    -- one that stands no longer is out
    gone-left : (e : Standing) → Knows e → stands (high pids past) e ≡ false → left q e ≡ []
    gone-left e knows out = by_test (runs q e)
        (λ y.
        let flags = shut-flags (is_begun q e) (is_closed q e) y in
        let all : sent q e ≡ up_to_end (end_of e) (ads.units e q)
        = all-out (begins_one pids) (stream pids q) (pids_are_streams pids q) (as_played e) (end_at e) (ads.units e q) (ends-fall e)
        (λ p past b. none-begins pids i q p past there b) (λ p past b. simp b refl) past (end_of e) flags.0 flags.1 (end-is e knows flags.0) (end-reached e (high pids past) out) in
        run-left e knows y ∙ ap (drop (length (sent q e))) (sym all) ∙ drop-length (sent q e))
        (idle-left e)

    not-played : (es : List Standing) → AllByRecursion Knows es → AllByRecursion (λ e. is_played ads e ≡ false → left q e ≡ []) es
    not-played [] known = tt
    not-played (e ∷ es) known = (
      λ n. idle-left e (by_test (runs q e) (λ y. absurd (true≢false (sym (played-run e known.0 (shut-flags (is_begun q e) (is_closed q e) y).0) ∙ n))) (λ z. z)),
      not-played es known.1,
    )

    not-standing : (es : List Standing) → AllByRecursion Knows es → AllByRecursion (λ e. stands (high pids past) e ≡ false → left q e ≡ []) es
    not-standing [] known = tt
    not-standing (e ∷ es) known = (gone-left e known.0, not-standing es known.1)

    alone-all : (es : List Standing) → AllByRecursion Knows es → NoneMeet es → AreAlone (left q) es
    alone-all [] known m = tt
    alone-all (e ∷ es) known m = (
      by_test (runs q e) (λ y. inr (none-left es (others-idle e known.0 y es known.1 m.1))) (λ y. inl (idle-left e y)),
      alone-all es known.1 m.2,
    )

    lefts-same : flat_map (left q) (played ads (events past)) ≡ flat_map (left q) standing_events
    lefts-same = sorted-same (left q) (is_played ads) (stands (high pids past)) (events past) (not-played (events past) all-known) (not-standing (events past) all-known) (alone-all (events past) all-known (h.apart past))

  -- ---- its packets

  module _ (i q : ℕ) (small : i % 8 ≡ i) (of : Stream) (o : IsOf filed streams events [] past i q of) where
    part-is : (e : Standing) → part_of (plan e) i ≡ part_known pids ads events e past q
    part-is e =
        part-there filed streams i of small (map (part_known pids ads events e past) pids) (is_crossed_known pids ads events past e) within
        ∙ get-map (part_known pids ads events e past) pids i q waiting o.there
      where
        within : i < length (map (part_known pids ads events e past) pids)
        within = let l = slice_get_within pids i q o.there in let m = length-map pids (part_known pids ads events e past) in omega (arith, l, m)

    runs-is : (e : Standing) → runs_in filed streams i of (e, plan e) ≡ runs q e
    runs-is e = ap (λ (x : Part). is_running x.stage) (part-is e) ∙ running-flags (is_closed q e) (is_begun q e)

    abbrev rest : Standing → List AdvertUnit
    rest e = rest_filed e.start of.kind (count_of_kind of.kind (take i streams)) e.length (filed e.program) (length (sent q e)) None

    left-is : (e : Standing) → Knows e → runs q e ≡ true → left q e ≡ as_played_units e.start (filed e.program) (rest e)
    left-is e knows y =
        run-left i q o.there e knows y
        ∙ ap (drop (length (sent q e))) (slice-is filed streams events [] past e i q of o)
        ∙ rest-all e.start of.kind (count_of_kind of.kind (take i streams)) e.length (filed e.program) (length (sent q e))

    module _ (done : PidSteps) where
      abbrev steps : List Step
      steps = done q

      packets-are : (e : Standing) → pair_packets filed streams i of None steps (e, plan e) ≡ slice_packets q (delta_in (ring_of e.start) (filed e.program)) steps (rest e)
      packets-are e =
          ap (λ (x : Part). packets_in filed streams i of (on_ring e) x.sent None steps) (part-is e)
          ∙ ap (λ z. slice_packets z (delta_in (ring_of e.start) (filed e.program)) steps (rest e)) o.pid_is

      one-out : (e : Standing) → Knows e → runs q e ≡ true → pair_packets filed streams i of None steps (e, plan e) ≡ out_behind packed_units done (put_on q (left q e))
      one-out e knows y =
          packets-are e
          ∙ sym (rest-packets e.start of.kind (count_of_kind of.kind (take i streams)) e.length (filed e.program) (length (sent q e)) None q done)
          ∙ ap (λ us. out_behind packed_units done (put_on q us)) (sym (left-is e knows y))

      abbrev found : List Standing → List (List ℕ)
      found es = running_packets filed streams i of None steps (beside es (map plan es))

      found-out : (es : List Standing) → AllByRecursion Knows es → NoneMeet es → found es ≡ out_behind packed_units done (put_on q (flat_map (left q) es))
      found-out [] known m = refl
      found-out (e ∷ es) known m = by_test (runs q e)
          (λ y.
          ap (found_packets filed streams i of None steps) (pick-first _ _ (runs_in filed streams i of (e, plan e)) (runs-is e ∙ y))
          ∙ one-out e known.0 y
          ∙ ap (λ us. out_behind packed_units done (put_on q us))
          (sym (ap (λ us. left q e ++ us) (none-left i q o.there es (others-idle i q o.there e known.0 y es known.1 m.1)) ∙ append-nil (left q e))))
          (λ y.
          ap (found_packets filed streams i of None steps) (pick-second _ _ (runs_in filed streams i of (e, plan e)) (runs-is e ∙ y))
          ∙ found-out es known.1 m.2
          ∙ ap (λ us. out_behind packed_units done (put_on q us)) (sym (ap (λ us. us ++ flat_map (left q) es) (idle-left i q o.there e y))))

      -- what goes out of the event that runs in the stream is what is left of the played events
      pub stream-out : running_packets filed streams i of None steps (beside standing_events (map plan standing_events)) ≡ out_behind packed_units done (put_on q (flat_map (left q) (played ads (events past))))
      stream-out =
          found-out standing_events (all-filter (stands (high pids past)) Knows (events past) all-known) (none-filter (stands (high pids past)) (events past) (h.apart past))
          ∙ ap (λ us. out_behind packed_units done (put_on q us)) (sym (lefts-same i q o.there))
