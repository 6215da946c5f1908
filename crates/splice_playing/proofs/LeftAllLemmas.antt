-- What is left at the end goes out stream by stream, and so does that of a whole network.
use Rattle.std.proofs.Common.{◌≡◌, ℕ, ◌+◌, ◌<◌, ◌≤◌, ◌==◌, List, [], ◌∷◌, ◌++◌, Bool, true, false, inl, inr, refl, sym, ap, ◌∙◌, subst, append_assoc, Option, None, Some, arith, length, map, length-append}
use Rattle.std.specs.Prelude.{slice_get, slice_index_or, is_some}
use Rattle.std.proofs.lemmas.Bool.{true≢false, or_left, or_parts, or_right}
use Rattle.std.proofs.lemmas.List.{length-map}
use Rattle.ts_packet.specs.Numbering.{Step}
use Rattle.unit_stream.specs.Times.{high}
use Rattle.psi_tables.specs.declared.stream.Stream.{Stream}
use Rattle.program_follower.specs.Program.{Program, program_of}
use Rattle.program_follower.specs.Following.{streams_of_program}
use Rattle.event_table.specs.Standing.{Standing, stands}
use Rattle.armed_events.specs.Arming.{standing, standing_at}
use Rattle.armed_events.specs.Valuing.{values_by}
use Rattle.ad_library.specs.Advertisements.{Advertisement}
use Rattle.ts_packet.specs.Fields.{is_among}
use Rattle.splice_laws.specs.Streams.{IsOnce}
use Rattle.output_laws.specs.Output.{Packing}
use Rattle.splice_plans.specs.declared.plan.Plan.{Plan}
use Rattle.splice_plans.specs.Playing.{Adverts, History, played}
use Rattle.splice_plans.specs.Counters.{PidSteps, out_behind}
use Rattle.splice_plans.specs.Switching.{Setting, puts_at_end, switched_at, streams_at, high_at, events_at, history_at, is_behind_head}
use Rattle.splice_plans.specs.Histories.{IsHistory}
use Rattle.splice_plans.specs.Adverts.{adverts_of, packed_units}
use Rattle.splice_plans.specs.Parts.{beside}
use Rattle.splice_plans.specs.Fronts.{all_running}
use Rattle.splice_plans.specs.Known.{AreSeparate, plan_at, behind_at, plans_at}
use Rattle.splice_plans.specs.Stepping.{rest_by}
use Rattle.splice_plans.proofs.HistoryLemmas.{armed_is_history}
use Rattle.plan_laws.specs.Laws.{steps_of, steps_known}
use Rattle.plan_laws.proofs.PartLemmas.{small-number}
use Rattle.plan_laws.proofs.PlayedLemmas.{placed-at}
use Rattle.plan_laws.proofs.PlanLemmas.{IsOf}
use Rattle.plan_laws.proofs.StandingLemmas.{plans-are, get-done, or-done, in-done}
use Rattle.plan_laws.proofs.RunLemmas.{events-are, pids-are}
use Rattle.program_follower.specs.Faults.{pids_in}
use Rattle.ts_packet.proofs.Cases.{test-same, test-turned}
use Rattle.ts_packet.proofs.FieldLemmas.{among-get}
use Rattle.splice_playing.proofs.FrameLemmas.{all-each}
use Rattle.splice_playing.proofs.RestOutLemmas.{AllDiffer, AllDistinct, AllPut, AllBehind, each-puts}
use Rattle.splice_playing.proofs.LeftLemmas.{left, plan, stream-out}

-- ---- each stream has its own PID

all-differ : (pid : ℕ) (ss : List Stream) → is_among pid (pids_in ss) ≡ false → AllDiffer pid ss
all-differ pid [] h = tt
all-differ pid (s ∷ ss) h = let parts = or_parts (s.pid == pid) (is_among pid (pids_in ss)) h in (test-turned s.pid pid parts.0, all-differ pid ss parts.1)

abbrev AreOnce : List ℕ → Type 0
AreOnce pids = (pid : ℕ) → is_among pid pids ≡ true → IsOnce pid pids

first-once : (q : ℕ) (qs : List ℕ) → IsOnce q (q ∷ qs) → is_among q qs ≡ false
first-once q qs (inl here) = here.1
first-once q qs (inr later) = absurd (true≢false (sym (test-same q) ∙ later.0))

later-once : (pid q : ℕ) (qs : List ℕ) → is_among pid qs ≡ true → IsOnce pid (q ∷ qs) → IsOnce pid qs
later-once pid q qs a (inl here) = absurd (true≢false (sym a ∙ here.1))
later-once pid q qs a (inr later) = later.1

all-distinct : (ss : List Stream) → AreOnce (pids_in ss) → AllDistinct ss
all-distinct [] once = tt
all-distinct (s ∷ ss) once = (
  all-differ s.pid ss (first-once s.pid (pids_in ss) (once s.pid (or_left (s.pid == s.pid) (is_among s.pid (pids_in ss)) (test-same s.pid)))),
  all-distinct ss (λ pid a. later-once pid s.pid (pids_in ss) a (once pid (or_right (s.pid == pid) (is_among pid (pids_in ss)) a))),
)

-- ---- of all streams

module _ (filed : ℕ → Option Advertisement) (streams : List Stream) (events : History) (past : List (List ℕ)) (h : IsHistory (high (pids_in streams)) events) (separate : AreSeparate (pids_in streams)) (now : PidSteps) where
  abbrev pids : List ℕ
  pids = pids_in streams

  abbrev ads : Adverts
  ads = adverts_of filed streams

  abbrev es : List Standing
  es = standing_at (high pids past) (events past)

  abbrev steps : ℕ → List Step
  steps i = steps_of now (slice_get pids i)

  abbrev xs : List (Standing × Plan)
  xs = beside es (map (plan filed streams events past h) es)

  few : length streams ≤ 8
  few = let f = separate.few in let m = length-map streams (λ (x : Stream). x.pid) in omega (arith, f, m)

  is-of : (i : ℕ) (of : Stream) → i < length streams → of ≡ slice_index_or streams i of → slice_get pids i ≡ Some of.pid → IsOf filed streams events [] past i of.pid of
  is-of i of l is got = record { there = got; pid_is = refl; placed = placed-at streams i of [] l is (separate.alone of.pid (among-get pids i of.pid got)) }

  longer : (done : List Stream) (of : Stream) (i : ℕ) → i ≡ length done → i + 1 ≡ length (done ++ of ∷ [])
  longer done of i at = let l = length-append done (of ∷ []) in omega (arith, l, at)

  got-at : (done : List Stream) (of : Stream) (rest : List Stream) (i : ℕ) → i ≡ length done → streams ≡ done ++ of ∷ rest → slice_get pids i ≡ Some of.pid
  got-at done of rest i at is = ap (slice_get pids) at ∙ subst (λ ss. slice_get (pids_in ss) (length done) ≡ Some of.pid) (sym is) (get-done done of rest)

  all-put : (done rest : List Stream) (i : ℕ) → i ≡ length done → streams ≡ done ++ rest
      → AllPut filed streams None packed_units steps xs (played ads (events past)) (left filed streams events past h) i rest
  all-put done [] i at is = tt
  all-put done (of ∷ rest) i at is =
      let below : length done < length streams = subst (λ ss. length done < length ss) (sym is) (in-done done of rest) in
      let within : i < length streams = omega (arith, below, at) in
      let here : of ≡ slice_index_or streams i of = subst (λ j. of ≡ slice_index_or streams j of) (sym at) (subst (λ ss. of ≡ slice_index_or ss (length done) of) (sym is) (or-done done of rest)) in
      let f = few in (
        λ before. stream-out filed streams events past h i of.pid (small-number i (omega (arith, within, f))) of (is-of i of within here (got-at done of rest i at is)) before,
        all-put (done ++ of ∷ []) rest (i + 1) (longer done of i at) (is ∙ sym (append_assoc done (of ∷ []) rest)),
      )

  all-behind : (done rest : List Stream) (i : ℕ) → i ≡ length done → streams ≡ done ++ rest
      → AllBehind filed streams None packed_units steps xs (played ads (events past)) (left filed streams events past h) now i rest
  all-behind done [] i at is = tt
  all-behind done (of ∷ rest) i at is = (
    ap (steps_of now) (got-at done of rest i at is),
    all-behind (done ++ of ∷ []) rest (i + 1) (longer done of i at) (is ∙ sym (append_assoc done (of ∷ []) rest)),
  )

  -- what runs without a limit is the end of the run
  pub end-is : all_running filed streams None es steps (values_by (plan_at pids ads events past (events past)) es) 0 streams ≡ out_behind packed_units now (puts_at_end pids ads events past)
  end-is =
      let f = few in
      ap (λ plans. all_running filed streams None es steps plans 0 streams) (plans-are pids ads events past (events past) (h.apart past) (stands (high pids past)))
      ∙ all-each filed streams None es steps (map (plan filed streams events past h) es) 0 streams (omega (arith, f))
      ∙ each-puts filed streams None packed_units steps xs (played ads (events past)) (left filed streams events past h) now 0 streams
      (all-put [] streams 0 refl refl) (all-behind [] streams 0 refl refl) (all-distinct streams separate.alone)

-- ---- of a network

module _ (k : Setting) (filed : ℕ → Option Advertisement) (past : List (List ℕ)) (split : AreSeparate (switched_at k past)) (adverts_are : k.adverts ≡ adverts_of filed) (packed_is : k.packed ≡ packed_units) (counted : PidSteps) where
  abbrev streams : List Stream
  streams = streams_at k past

  abbrev behind : List (List ℕ)
  behind = behind_at k past

  abbrev hist : History
  hist = history_at k past

  -- where these are the switched PIDs, the advertisements, how a unit is packed, and the events
  abbrev EndsWithThese : List ℕ → Adverts → Packing → List Standing → Type 0
  EndsWithThese sw av packed evs =
      all_running filed streams None (standing_at (high sw behind) evs) (λ i. steps_of counted (slice_get sw i)) (values_by (plan_at sw av hist behind evs) (standing_at (high sw behind) evs)) 0 streams
      ≡ out_behind packed counted (puts_at_end sw av hist behind)

  these : is_behind_head k past ≡ true → EndsWithThese (switched_at k past) (k.adverts streams) k.packed (events_at k past)
  these b =
      subst (λ sw. EndsWithThese sw (k.adverts streams) k.packed (events_at k past)) (sym (pids-are k [] past))
      (subst (λ av. EndsWithThese (pids_in streams) av k.packed (events_at k past)) (sym (ap (λ (f : List Stream → Adverts). f streams) adverts_are))
      (subst (λ packed. EndsWithThese (pids_in streams) (adverts_of filed streams) packed (events_at k past)) (sym packed_is)
      (subst (λ evs. EndsWithThese (pids_in streams) (adverts_of filed streams) packed_units evs) (events-are k [] past)
      (end-is filed streams hist behind (subst (λ sw. IsHistory (high sw) hist) (pids-are k [] past) (armed_is_history k past b)) (subst AreSeparate (pids-are k [] past) split) counted))))

  abbrev rest_runs : List (List ℕ)
  rest_runs = all_running filed streams None (standing k.cue_pid (high_at k) past) (steps_known k past counted) (values_by (plans_at k past behind) (standing k.cue_pid (high_at k) past)) 0 streams

  no-streams : is_behind_head k past ≡ false → streams ≡ []
  no-streams b = by (program_of (Some k.program) past) b
    where
      by : (o : Option Program) → is_some o ≡ false → streams_of_program o ≡ []
      by None h = refl
      by (Some r) h = absurd (true≢false h)

  by-head : (b : Bool) → is_behind_head k past ≡ b → rest_runs ≡ rest_by k counted past
  by-head true b = these b ∙ simp b refl
  by-head false b =
      ap (λ ss. all_running filed streams None (standing k.cue_pid (high_at k) past) (steps_known k past counted) (values_by (plans_at k past behind) (standing k.cue_pid (high_at k) past)) 0 ss) (no-streams b)
      ∙ simp b refl

  pub rest-is-all : rest_runs ≡ rest_by k counted past
  rest-is-all = by-head (is_behind_head k past) refl
