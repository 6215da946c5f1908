-- A past behind a head, and the plans of the events that stand there, through a unit start.
use Rattle.std.proofs.Common.{◌≡◌, ℕ, ◌+◌, ◌%◌, ◌<◌, ◌≤◌, List, [], ◌∷◌, ◌++◌, Bool, true, false, refl, sym, ap, ◌∙◌, subst, append_assoc, Option, None, Some, arith, if◌then◌else◌, length, drop, map, length-append}
use Rattle.std.specs.Prelude.{slice_get, slice_index_or, is_some, option_map}
use Rattle.std.specs.List.{AllByRecursion}
use Rattle.std.proofs.lemmas.Bool.{true≢false}
use Rattle.std.proofs.lemmas.List.{length-map}
use Rattle.ts_packet.proofs.Cases.{by_test}
use Rattle.ts_packet.specs.Fields.{on}
use Rattle.pes_time.specs.Line.{place}
use Rattle.unit_stream.specs.Times.{begins, begins_one, stamp, timed, high, unit_time}
use Rattle.psi_tables.specs.declared.stream.Stream.{Stream}
use Rattle.psi_tables.specs.ProgramMap.{ProgramMap}
use Rattle.program_follower.specs.Program.{Program, known_map, program_in, program_of, behind_head, pids_of}
use Rattle.program_follower.specs.Following.{streams_of_program}
use Rattle.program_laws.proofs.HeadLemmas.{known_stays}
use Rattle.event_table.specs.Standing.{Standing, stands}
use Rattle.armed_events.specs.Arming.{Heard, standing_at}
use Rattle.armed_events.specs.Valuing.{values_by}
use Rattle.armed_laws.specs.Laws.{NoneMeet}
use Rattle.armed_events.proofs.PastLemmas.{heard-off}
use Rattle.ad_library.specs.Advertisements.{Advertisement}
use Rattle.splice_plans.specs.declared.plan.Plan.{Plan}
use Rattle.splice_plans.specs.Playing.{Adverts, History}
use Rattle.splice_plans.specs.Switching.{Setting, switched_at, streams_at, high_at, events_at, head_at, history_at, is_behind_head}
use Rattle.splice_plans.specs.Histories.{IsHistory}
use Rattle.splice_plans.specs.Adverts.{adverts_of}
use Rattle.splice_plans.specs.Fronts.{closed_plans, all_ran}
use Rattle.splice_plans.specs.Known.{AreSeparate, plan_at, behind_at}
use Rattle.splice_plans.proofs.AdvertLemmas.{libraries_are_steady}
use Rattle.program_follower.specs.Faults.{pids_in}
use Rattle.std.proofs.lemmas.Option.{slice_get_within}
use Rattle.ts_packet.proofs.FieldLemmas.{among-get}
use Rattle.plan_laws.proofs.ToldLemmas.{Told, all-told}
use Rattle.plan_laws.proofs.PartLemmas.{small-number}
use Rattle.plan_laws.proofs.PlayedLemmas.{placed-at}
use Rattle.plan_laws.proofs.PlanLemmas.{IsOf}
use Rattle.plan_laws.proofs.RunningLemmas.{AllOf, mixed, first, none-filter, all-unstamped, all-stamped, all-streams, all-last}
use Rattle.plan_laws.proofs.StandingLemmas.{all-filter, all-pass, plans-are, others-begin-not, begins-some, get-done, or-done, in-done, get-stream}

-- ---- a past behind a head

pub front-joined : (wanted : Option ℕ) (past : List (List ℕ)) → behind_head wanted past ++ drop (length (behind_head wanted past)) past ≡ past
front-joined wanted [] = refl
front-joined wanted (p ∷ past) = by_test (is_some (known_map wanted past)) (λ y. simp y (ap (λ l. p ∷ l) (front-joined wanted past))) (λ y. simp y)

module _ (k : Setting) (p : List ℕ) (past : List (List ℕ)) where
  pub events-are : history_at k past (behind_at k past) ≡ events_at k past
  events-are = ap (events_at k) (front-joined (Some k.program) past)

  pub events-stay : on k.cue_pid p ≡ false → history_at k past (p ∷ behind_at k past) ≡ history_at k past (behind_at k past)
  events-stay o = ap (λ (x : Heard). x.events) (heard-off k.cue_pid (high_at k) p (behind_at k past ++ head_at k past) o)

  pub pids-are : switched_at k past ≡ pids_in (streams_at k past)
  pids-are = by (program_of (Some k.program) past)
    where
      by : (o : Option Program) → pids_of o ≡ pids_in (streams_of_program o)
      by None = refl
      by (Some r) = refl

  pub has-head : (n pid : ℕ) → slice_get (switched_at k past) n ≡ Some pid → is_behind_head k past ≡ true
  has-head n pid h = by (program_of (Some k.program) past) h
    where
      by : (o : Option Program) → slice_get (pids_of o) n ≡ Some pid → is_some o ≡ true
      by None h = absurd (cc)
      by (Some r) h = refl

  high-by : (o : Option ProgramMap) → known_map (Some k.program) past ≡ o → is_some (option_map program_in o) ≡ true → high_at k (p ∷ past) ≡ high (switched_at k past) (p ∷ behind_at k past)
  high-by None is b = absurd (true≢false (sym b))
  high-by (Some m) is b =
      let later = known_stays (Some k.program) p past m is in
      let more : behind_head (Some k.program) (p ∷ past) ≡ p ∷ behind_head (Some k.program) past = ap (λ o. if is_some o then p ∷ behind_head (Some k.program) past else []) is in
      ap (λ o. high (pids_of (option_map program_in o)) (behind_head (Some k.program) (p ∷ past))) (later ∙ sym is) ∙ ap (high (switched_at k past)) more

  pub high-is : is_behind_head k past ≡ true → high_at k (p ∷ past) ≡ high (switched_at k past) (p ∷ behind_at k past)
  high-is b = high-by (known_map (Some k.program) past) refl b

-- ---- one run

module _ (filed : ℕ → Option Advertisement) (streams : List Stream) (events : History) (p : List ℕ) (past : List (List ℕ)) where
  abbrev pids : List ℕ
  pids = pids_in streams

  abbrev ads : Adverts
  ads = adverts_of filed streams

  abbrev es : List Standing
  es = standing_at (high pids past) (events past)

  module _ (h : IsHistory (high pids) events) (stay : events (p ∷ past) ≡ events past) (s : AreSeparate pids) (n pid : ℕ) (there : slice_get pids n ≡ Some pid) (b : begins pid p past ≡ true) where
    pub turn : begins_one pids p past ≡ true
    turn = begins-some pids n pid there p past b

    others : (j q : ℕ) → slice_get pids j ≡ Some q → (j ≡ n → ⊥) → begins q p past ≡ false
    others = others-begin-not pids s n pid there p past b

    few : length streams ≤ 8
    few = let f = s.few in let m = length-map streams (λ (x : Stream). x.pid) in omega (arith, f, m)

    pub small : n % 8 ≡ n
    small = let l = slice_get_within pids n pid there in let f = s.few in small-number n (omega (arith, l, f))

    pub all-are-told : AllByRecursion (Told pids ads events p past) (events past)
    all-are-told = all-told pids ads events p past (libraries_are_steady filed streams) h stay

    pub told : AllByRecursion (Told pids ads events p past) es
    told = all-filter (stands (high pids past)) (Told pids ads events p past) (events past) all-are-told

    pub apart : NoneMeet es
    apart = none-filter (stands (high pids past)) (events past) (h.apart past)

    pub is-of : (i : ℕ) (of : Stream) → i < length streams → of ≡ slice_index_or streams i of → slice_get pids i ≡ Some of.pid → IsOf filed streams events p past i of.pid of
    is-of i of l is got = record { there = got; pid_is = refl; placed = placed-at streams i of [] l is (s.alone of.pid (among-get pids i of.pid got)) }

    pub all-of : (done rest : List Stream) (i : ℕ) → i ≡ length done → streams ≡ done ++ rest → AllOf filed streams events p past h turn i rest
    all-of done [] i at is = tt
    all-of done (of ∷ rest) i at is =
        let below : length done < length streams = subst (λ ss. length done < length ss) (sym is) (in-done done of rest) in
        let here : of ≡ slice_index_or streams (length done) of = subst (λ ss. of ≡ slice_index_or ss (length done) of) (sym is) (or-done done of rest) in
        let got : slice_get pids (length done) ≡ Some of.pid = subst (λ ss. slice_get (pids_in ss) (length done) ≡ Some of.pid) (sym is) (get-done done of rest) in
        let f = few in (
          omega (arith, below, f, at),
          subst (λ j. IsOf filed streams events p past j of.pid of) (sym at) (is-of (length done) of below here got),
          all-of (done ++ of ∷ []) rest (i + 1) (longer done of i at) (is ∙ sym (append_assoc done (of ∷ []) rest)),
        )
      where
        longer : (done : List Stream) (of : Stream) (i : ℕ) → i ≡ length done → i + 1 ≡ length (done ++ of ∷ [])
        longer done of i at = let l = length-append done (of ∷ []) in omega (arith, l, at)

    pub time-same : (st : Option ℕ) → stamp p ≡ st → unit_time pids pid (p ∷ past) ≡ timed (high pids past) st (unit_time pids pid past)
    time-same st e = pick (begins pid p past) b ∙ ap (λ s. timed (high pids past) s (unit_time pids pid past)) e
      where
        pick : (c : Bool) → c ≡ true → (if c then timed (high pids past) (stamp p) (unit_time pids pid past) else unit_time pids pid past) ≡ timed (high pids past) (stamp p) (unit_time pids pid past)
        pick true h = refl
        pick false h = absurd (true≢false (sym h))

    pub closed-are : (of : Stream) → of ≡ slice_index_or streams n of → (st : Option ℕ) → stamp p ≡ st
        → closed_plans filed streams n of (high pids past) st es (map (first filed streams events p past h turn) es) ≡ map (mixed filed streams events p past h turn 0) es
    closed-are of is None e = all-unstamped filed streams events p past h turn n pid there others (time-same None e) es told
    closed-are of is (Some t) e =
        let g = get-stream streams n pid of there is in
        all-stamped filed streams events p past h turn n pid there others small b (place (high pids past) t) (time-same (Some t) e) of
        (subst (λ q. IsOf filed streams events p past n q of) g.0 (is-of n of g.1 is (there ∙ ap (λ z. let o : Option ℕ = Some z in o) (sym g.0)))) es told (all-pass (stands (high pids past)) (events past))

    abbrev firsts : List Plan
    firsts = values_by (plan_at pids ads events past (events past)) es

    pub between-are : (of : Stream) → of ≡ slice_index_or streams n of → closed_plans filed streams n of (high pids past) (stamp p) es firsts ≡ map (mixed filed streams events p past h turn 0) es
    between-are of is =
        ap (closed_plans filed streams n of (high pids past) (stamp p) es) (plans-are pids ads events past (events past) (h.apart past) (stands (high pids past)))
        ∙ closed-are of is (stamp p) refl

    pub behind-are : (of : Stream) → of ≡ slice_index_or streams n of
        → all_ran filed streams (high pids (p ∷ past)) es (closed_plans filed streams n of (high pids past) (stamp p) es firsts) 0 streams ≡ values_by (plan_at pids ads events (p ∷ past) (events past)) es
    behind-are of is =
        ap (λ plans. all_ran filed streams (high pids (p ∷ past)) es plans 0 streams) (between-are of is)
        ∙ all-streams filed streams events p past h turn streams 0 (all-of [] streams 0 refl refl) es told apart
        ∙ all-last filed streams events p past h turn (0 + length streams) (let m = length-map streams (λ (x : Stream). x.pid) in omega (arith, m)) es told
        ∙ sym (plans-are pids ads events (p ∷ past) (events past) (h.apart past) (stands (high pids past)))
