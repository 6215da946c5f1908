-- What a packet that begins no unit does to what the events and streams stand for.
use Rattle.std.proofs.Common.{◌≡◌, ℕ, zero, suc, ◌+◌, ◌-◌, ◌≤◌, List, [], ◌∷◌, ◌++◌, length, Bool, true, false, not, ◌&&◌, if◌then◌else◌, refl, sym, ap, subst, ◌∙◌, arith}
use Rattle.std.specs.Prelude.{ℤ, Option, None, Some, option_map, is_some, map, replicate, drop, count_by, slice_get, slice_index_or}
use Rattle.std.specs.List.{AllByRecursion}
use Rattle.std.proofs.lemmas.Bool.{true≢false, or_parts}
use Rattle.ts_packet.specs.Fields.{on, on_one}
use Rattle.ts_packet.specs.Numbering.{Counts}
use Rattle.ts_packet.proofs.FieldLemmas.{off_payload}
use Rattle.unit_stream.specs.Times.{begins, begins_one, high, unit_time}
use Rattle.unit_stream.proofs.ClockLemmas.{high_same, begins_off_all}
use Rattle.unit_stream.specs.Fates.{is_left_out}
use Rattle.psi_section.proofs.AssemblerLemmas.{waits_off}
use Rattle.psi_tables.specs.ProgramMap.{ProgramMap}
use Rattle.program_follower.specs.Program.{known_map, behind_head, program_in, pids_of}
use Rattle.program_follower.specs.Following.{streams_of_program}
use Rattle.program_laws.proofs.HeadLemmas.{known_stays, nothing_behind}
use Rattle.event_table.specs.Standing.{Standing}
use Rattle.armed_events.specs.declared.obeying.ArmedEvents.{ArmedEvents}
use Rattle.armed_events.specs.Arming.{Heard, heard, standing_at, standing}
use Rattle.armed_events.specs.Obeying.{Obeys, ObeyedFor}
use Rattle.armed_events.specs.Valuing.{values_by}
use Rattle.armed_events.proofs.PastLemmas.{heard-off}
use Rattle.output_laws.specs.Output.{Keep, Leave, Packing}
use Rattle.splice_plans.specs.declared.plan.Part.{Part}
use Rattle.splice_plans.specs.declared.plan.Plan.{Plan}
use Rattle.splice_plans.specs.declared.stream.SwitchedStream.{SwitchedStream}
use Rattle.splice_plans.specs.Waiting.{runs_in_any}
use Rattle.splice_plans.specs.Turning.{waiting}
use Rattle.splice_plans.specs.Playing.{Adverts, History, is_played, is_inside}
use Rattle.splice_plans.specs.Counters.{PidSteps, counted_at, counted_after}
use Rattle.splice_plans.specs.Switching.{Setting, switched_at, streams_at, high_at, events_at, history_at}
use Rattle.splice_plans.specs.Reporting.{EventCounts as Reported, ReportIs, is_not_fitted, no_counts}
use Rattle.splice_plans.specs.Known.{nothing_known, padded, part_known, plan_known, plan_found, plan_at, is_crossed_known, GoesAs, adverts_at, behind_at, plans_at, inside_at, counts_known, is_forgotten}
use Rattle.splice_plans.specs.Stepping.{counted_before, counted_next}
use Rattle.splice_plans.proofs.PutLemmas.{puts_at_unit_starts}
use Rattle.splice_playing.specs.declared.playing.Playing.{Playing}
use Rattle.splice_playing.specs.Dues.{NoneDueOf, NoneDue, IsAllOut}
use Rattle.splice_playing.specs.Resting.{none_run}
use Rattle.splice_playing.proofs.WaitingLemmas.{none-found}
use Rattle.splice_playing.specs.Relations.{PlaysBy, PlaysBefore, PlaysBehind, counted_with}
use Rattle.splice_playing.proofs.LeavingLemmas.{none-taken, others-taken, first-taken, taken-behind}
use Rattle.splice_playing.proofs.PlaceLemmas.{nothing-holds}
use Rattle.splice_switch.proofs.QuietLemmas.{any-none, count-same, count-none, values-same, each-at, begins-none, crossed-known-same, plan-at-same, inside-same}

-- ---- one stream

go-on : (s : SwitchedStream) (now after : ℕ → Bool) (done more : PidSteps) (o : Option ℕ) → ((pid : ℕ) → o ≡ Some pid → after pid ≡ now pid)
    → ((pid : ℕ) → o ≡ Some pid → more pid ≡ done pid) → GoesAs s now done o → GoesAs s after more o
go-on s now after done more None h k g = g
go-on s now after done more (Some pid) h k g =
    record { counter = subst (λ steps. Counts s.counter steps) (sym (k pid refl)) g.counter; leaving = g.leaving ∙ sym (h pid refl) }

steps-off : (packed : Packing) (pid : ℕ) (p : List ℕ) (read : List (List ℕ)) (steps : PidSteps) (d : Bool) → on pid p ≡ false → counted_at packed (if d then Leave p else Keep p) read steps pid ≡ steps pid
steps-off packed pid p read steps true off = let n = off_payload pid p off in simp n refl
steps-off packed pid p read steps false off = simp off refl

-- the steps of the switched PIDs alone matter
pub plays-same : (playing : Playing) (k : Setting) (past : List (List ℕ)) (steps more : PidSteps) → ((n pid : ℕ) → slice_get (switched_at k past) n ≡ Some pid → more pid ≡ steps pid)
    → PlaysBy playing k past steps → PlaysBy playing k past more
plays-same playing k past steps more same h = record {
  events = h.events;
  plans = h.plans;
  streams = λ i s below.
      go-on (slice_index_or playing.streams i s) (inside_at k past (behind_at k past)) (inside_at k past (behind_at k past)) steps more (slice_get (switched_at k past) i)
      (λ pid is. refl) (same i) (h.streams i s below);
  leaving = h.leaving;
  forgotten = h.forgotten;
  all_out = h.all_out;
}

-- none of the PIDs is the packet's
pub switched-off : (pids : List ℕ) (p : List ℕ) → on_one pids p ≡ false → AllByRecursion (λ pid. on pid p ≡ false) pids
switched-off [] p h = tt
switched-off (pid ∷ pids) p h = let r = or_parts (on pid p) (on_one pids p) h in (r.0, switched-off pids p r.1)

or-both : (a b : Bool) → a ≡ false → b ≡ false → (Rattle.std.proofs.Common.◌||◌ a b) ≡ false
or-both true b h k = h
or-both false b h k = k

-- ---- before the packet

pub plays-before : (playing : Playing) (k : Setting) (p : List ℕ) (past : List (List ℕ)) → begins_one (switched_at k past) p (behind_at k past) ≡ false → high_at k (p ∷ past) ≡ high_at k past
    → (steps : PidSteps) → PlaysBy playing k past steps → PlaysBefore playing k p past steps
plays-before playing k p past none same steps h =
    let sw = switched_at k past in
    let ads = adverts_at k past in
    let behind = behind_at k past in
    record {
      events = h.events;
      plans = h.plans ∙ values-same (plans_at k past behind) (plans_at k past (p ∷ behind)) (standing k.cue_pid (high_at k) past)
          (λ start. sym (plan-at-same sw ads (history_at k past) p behind none (events_at k past) start));
      streams = λ i s below.
          go-on (slice_index_or playing.streams i s) (inside_at k past behind) (inside_at k past (p ∷ behind)) steps (counted_before k steps p past) (slice_get sw i)
          (λ pid is. inside-same sw ads (events_at k past) pid p behind (each-at (λ q. begins q p behind ≡ false) sw i pid is (begins-none sw p behind none)))
          (λ pid is. ap (λ ms. counted_after k.packed steps ms pid) (puts_at_unit_starts sw ads (history_at k past) p behind none))
          (h.streams i s below);
      leaving = others-taken playing.leaving playing.streams sw p behind h.leaving;
      forgotten = h.forgotten;
      all_out = λ out filed is.
          let es = standing k.cue_pid (high_at k) past in
          subst (λ l. NoneDue filed (streams_at k past) l es (values_by (plans_at k past (p ∷ behind)) es)) (sym same)
          (subst (NoneDue filed (streams_at k past) (high_at k past) es)
          (values-same (plans_at k past behind) (plans_at k past (p ∷ behind)) es (λ start. sym (plan-at-same sw ads (history_at k past) p behind none (events_at k past) start)))
          (h.all_out (subst (IsAllOut playing.all_out) same out) filed is));
    }

-- a packet of none of the streams passes
pub plays-passed : (playing : Playing) (k : Setting) (p : List ℕ) (past : List (List ℕ)) → on_one (switched_at k past) p ≡ false → (steps : PidSteps) → PlaysBefore playing k p past steps → PlaysBehind playing k p past steps
plays-passed playing k p past off steps h =
    let sw = switched_at k past in
    let behind = behind_at k past in
    let before = counted_before k steps p past in
    let left = is_left_out (λ pid time. is_inside (adverts_at k past) (history_at k past (p ∷ behind)) time) sw p behind sw in
    record {
      events = h.events;
      plans = h.plans;
      streams = λ i s below.
          go-on (slice_index_or playing.streams i s) (inside_at k past (p ∷ behind)) (inside_at k past (p ∷ behind)) before (counted_with k steps p past) (slice_get sw i)
          (λ pid is. refl) (λ pid is. steps-off k.packed pid p behind before left (each-at (λ q. on q p ≡ false) sw i pid is (switched-off sw p off)))
          (h.streams i s below);
      leaving = none-taken playing.leaving playing.streams sw p behind off h.leaving;
      forgotten = h.forgotten;
      all_out = h.all_out;
    }

-- ---- behind the packet

abbrev counts-of : List ℕ → Adverts → History → List (List ℕ) → List Standing → (Standing → Bool) → Reported
counts-of switched ads events behind es takes =
    record {
      played = count_by (λ e. takes e && is_played ads e) es;
      not_fitted = count_by (λ e. takes e && is_not_fitted ads e) es;
      unconditioned = count_by (λ e. takes e && (is_played ads e && is_crossed_known switched ads events behind e)) es;
      ignored = 0;
    }

made-counts : ℕ → ℕ → ℕ → Reported
made-counts played not_fitted unconditioned = record { played = played; not_fitted = not_fitted; unconditioned = unconditioned; ignored = 0 }

-- behind the head, a packet of another PID than that of the cues
module _ (k : Setting) (p : List ℕ) (past : List (List ℕ)) (m : ProgramMap) (known : known_map (Some k.program) past ≡ Some m) (off : on k.cue_pid p ≡ false) where
  known-more : known_map (Some k.program) (p ∷ past) ≡ known_map (Some k.program) past
  known-more = known_stays (Some k.program) p past m known ∙ sym known

  pub switched-more : switched_at k (p ∷ past) ≡ switched_at k past
  switched-more = ap (λ o. pids_of (option_map program_in o)) known-more

  pub streams-more : streams_at k (p ∷ past) ≡ streams_at k past
  streams-more = ap (λ o. streams_of_program (option_map program_in o)) known-more

  adverts-more : adverts_at k (p ∷ past) ≡ adverts_at k past
  adverts-more = ap k.adverts streams-more

  behind-more : behind_at k (p ∷ past) ≡ p ∷ behind_at k past
  behind-more = ap (λ o. if is_some o then p ∷ behind_head (Some k.program) past else []) known

  history-more : history_at k (p ∷ past) ≡ history_at k past
  history-more = ap (λ (l : List (List ℕ)). let f : History = λ behind. events_at k (behind ++ drop (length l) (p ∷ past)) in f) behind-more

  heard-more : heard k.cue_pid (high_at k) (p ∷ past) ≡ heard k.cue_pid (high_at k) past
  heard-more = heard-off k.cue_pid (high_at k) p past off

  events-more : events_at k (p ∷ past) ≡ events_at k past
  events-more = ap (λ (h : Heard). h.events) heard-more

  plans-more : (start : ℤ) → plans_at k (p ∷ past) (behind_at k (p ∷ past)) start ≡ plans_at k past (p ∷ behind_at k past) start
  plans-more start =
      ap (λ sw. plan_at sw (adverts_at k (p ∷ past)) (history_at k (p ∷ past)) (behind_at k (p ∷ past)) (events_at k (p ∷ past)) start) switched-more
      ∙ ap (λ ads. plan_at (switched_at k past) ads (history_at k (p ∷ past)) (behind_at k (p ∷ past)) (events_at k (p ∷ past)) start) adverts-more
      ∙ ap (λ (f : History). plan_at (switched_at k past) (adverts_at k past) f (behind_at k (p ∷ past)) (events_at k (p ∷ past)) start) history-more
      ∙ ap (λ b. plan_at (switched_at k past) (adverts_at k past) (history_at k past) b (events_at k (p ∷ past)) start) behind-more
      ∙ ap (λ es. plan_at (switched_at k past) (adverts_at k past) (history_at k past) (p ∷ behind_at k past) es start) events-more

  inside-more : (pid : ℕ) → inside_at k (p ∷ past) (behind_at k (p ∷ past)) pid ≡ inside_at k past (p ∷ behind_at k past) pid
  inside-more pid =
      ap (λ sw. is_inside (adverts_at k (p ∷ past)) (events_at k (p ∷ past)) (unit_time sw pid (behind_at k (p ∷ past)))) switched-more
      ∙ ap (λ ads. is_inside ads (events_at k (p ∷ past)) (unit_time (switched_at k past) pid (behind_at k (p ∷ past)))) adverts-more
      ∙ ap (λ es. is_inside (adverts_at k past) es (unit_time (switched_at k past) pid (behind_at k (p ∷ past)))) events-more
      ∙ ap (λ b. is_inside (adverts_at k past) (events_at k past) (unit_time (switched_at k past) pid b)) behind-more

  next-more : (steps : PidSteps) → counted_next k steps p past ≡ counted_with k steps p past
  next-more steps = ap (λ o. if is_some (option_map program_in o) then counted_with k steps p past else (λ pid. [])) known

  module _ (none : begins_one (switched_at k past) p (behind_at k past) ≡ false) where
    pub high-more : high_at k (p ∷ past) ≡ high_at k past
    high-more =
        ap (λ sw. high sw (behind_at k (p ∷ past))) switched-more ∙ ap (high (switched_at k past)) behind-more ∙ high_same (switched_at k past) p (behind_at k past) none

    standing-more : standing k.cue_pid (high_at k) (p ∷ past) ≡ standing k.cue_pid (high_at k) past
    standing-more = ap (λ l. standing_at l (events_at k (p ∷ past))) high-more ∙ ap (standing_at (high_at k past)) events-more

    counts-more : counts_known k (p ∷ past) (is_forgotten (high_at k (p ∷ past))) ≡ counts_known k past (is_forgotten (high_at k past))
    unfolding made-counts
    counts-more =
        let sw = switched_at k past in
        let ads = adverts_at k past in
        let f = history_at k past in
        let behind = behind_at k past in
        let es = events_at k past in
        let takes = is_forgotten (high_at k past) in
        ap (λ h. counts_known k (p ∷ past) (is_forgotten h)) high-more
        ∙ ap (λ s. counts-of s (adverts_at k (p ∷ past)) (history_at k (p ∷ past)) (behind_at k (p ∷ past)) (events_at k (p ∷ past)) takes) switched-more
        ∙ ap (λ a. counts-of sw a (history_at k (p ∷ past)) (behind_at k (p ∷ past)) (events_at k (p ∷ past)) takes) adverts-more
        ∙ ap (λ (g : History). counts-of sw ads g (behind_at k (p ∷ past)) (events_at k (p ∷ past)) takes) history-more
        ∙ ap (λ b. counts-of sw ads f b (events_at k (p ∷ past)) takes) behind-more
        ∙ ap (λ l. counts-of sw ads f (p ∷ behind) l takes) events-more
        ∙ ap (made-counts (count_by (λ e. takes e && is_played ads e) es) (count_by (λ e. takes e && is_not_fitted ads e) es))
        (count-same (λ e. takes e && (is_played ads e && is_crossed_known sw ads f (p ∷ behind) e)) (λ e. takes e && (is_played ads e && is_crossed_known sw ads f behind e)) es
        (λ e. ap (λ b. takes e && (is_played ads e && b)) (crossed-known-same sw ads f p behind none e)))

    obeys-more : (events : ArmedEvents Plan) → Obeys events k.cue_pid (high_at k) past → Obeys events k.cue_pid (high_at k) (p ∷ past)
    obeys-more events h = record {
      waits = waits_off events.assembler k.cue_pid p past off h.waits;
      obeyed = subst (λ l. ObeyedFor events.obeyed l (heard k.cue_pid (high_at k) (p ∷ past))) (sym high-more)
          (subst (λ (g : Heard). ObeyedFor events.obeyed (high_at k past) g) (sym heard-more) h.obeyed);
    }

    pub plays-behind : (playing : Playing) (steps : PidSteps) → PlaysBehind playing k p past steps → PlaysBy playing k (p ∷ past) (counted_next k steps p past)
    plays-behind playing steps h =
        let behind = behind_at k past in
        record {
          events = obeys-more playing.events h.events;
          plans = h.plans
              ∙ values-same (plans_at k past (p ∷ behind)) (plans_at k (p ∷ past) (behind_at k (p ∷ past))) (standing k.cue_pid (high_at k) past) (λ start. sym (plans-more start))
              ∙ ap (values_by (plans_at k (p ∷ past) (behind_at k (p ∷ past)))) (sym standing-more);
          streams = λ i s below.
              subst (λ sw. GoesAs (slice_index_or playing.streams i s) (inside_at k (p ∷ past) (behind_at k (p ∷ past))) (counted_next k steps p past) (slice_get sw i)) (sym switched-more)
              (go-on (slice_index_or playing.streams i s) (inside_at k past (p ∷ behind)) (inside_at k (p ∷ past) (behind_at k (p ∷ past))) (counted_with k steps p past) (counted_next k steps p past)
              (slice_get (switched_at k past) i) (λ pid is. inside-more pid) (λ pid is. ap (λ (f : PidSteps). f pid) (next-more steps)) (h.streams i s below));
          leaving = taken-behind k playing.leaving playing.streams p past (ap (λ o. is_some (option_map program_in o)) known) h.leaving;
          forgotten = subst (λ c. ReportIs playing.forgotten c) (sym counts-more) h.forgotten;
          all_out = λ out filed is.
              let es = standing k.cue_pid (high_at k) past in
              let later = high_at k (p ∷ past) in
              let plans = plans_at k (p ∷ past) (behind_at k (p ∷ past)) in
              let streams = streams_at k (p ∷ past) in
              subst (λ l. NoneDue filed streams later l (values_by plans l)) (sym standing-more)
              (subst (NoneDue filed streams later es) (values-same (plans_at k past (p ∷ behind)) plans es (λ start. sym (plans-more start)))
              (subst (λ ss. NoneDue filed ss later es (values_by (plans_at k past (p ∷ behind)) es)) (sym streams-more) (h.all_out out filed is)));
        }

-- ---- in the head

-- events of which nothing is known run in no stream
nothing-begun : (plans : ℤ → Plan) → ((start : ℤ) → plans start ≡ nothing_known) → (es : List Standing) → none_run (values_by plans es) ≡ true
nothing-begun plans none [] = refl
nothing-begun plans none (e ∷ es) = ap (λ plan. not (runs_in_any plan) && none_run (values_by plans es)) (none e.start) ∙ nothing-begun plans none es

replicate-join : (n m : ℕ) (x : Part) → replicate n x ++ replicate m x ≡ replicate (n + m) x
replicate-join zero m x = ap (λ l. replicate l x) (let e : m ≡ 0 + m = omega arith in e)
replicate-join (suc n) m x = ap (λ l. x ∷ l) (replicate-join n m x) ∙ ap (λ l. replicate l x) (let e : suc (n + m) ≡ suc n + m = omega arith in e)

module _ (sw : List ℕ) (ads : Adverts) (events : History) where
  none-parts : (e : Standing) (pids : List ℕ) → map (part_known sw ads events e []) pids ≡ replicate (length pids) waiting
  none-parts e [] = refl
  none-parts e (pid ∷ pids) = ap (λ l. waiting ∷ l) (none-parts e pids)

  made-plan : List Part → Bool → Plan
  made-plan parts crossed = record { parts = parts; is_crossed = crossed }

  plan-nothing : length sw ≤ 8 → (e : Standing) → plan_known sw ads events [] e ≡ nothing_known
  unfolding made-plan
  plan-nothing few e =
      let n = length sw in
      let size : length (replicate n waiting) ≡ n = Rattle.std.proofs.lemmas.List.length-replicate n waiting in
      let padded-is : padded (map (part_known sw ads events e []) sw) ≡ replicate 8 waiting
      = ap padded (none-parts e sw) ∙ ap (λ l. replicate n waiting ++ replicate (8 - l) waiting) size ∙ replicate-join n (8 - n) waiting
      ∙ ap (λ l. replicate l waiting) (let e : n + (8 - n) ≡ 8 = omega (arith, few) in e) in
      ap (λ ps. made-plan ps (is_crossed_known sw ads events [] e)) padded-is ∙ ap (made-plan (replicate 8 waiting)) (any-none (λ pid. false) sw (λ pid. refl))

  found-nothing : length sw ≤ 8 → (o : Option Standing) → plan_found sw ads events [] o ≡ nothing_known
  found-nothing few None = refl
  found-nothing few (Some e) = plan-nothing few e

  at-nothing : length sw ≤ 8 → (es : List Standing) (start : ℤ) → plan_at sw ads events [] es start ≡ nothing_known
  at-nothing few es start = found-nothing few (Rattle.std.specs.Prelude.find (λ e. Rattle.std.specs.Ordering.int_eq e.start start) es)

nothing-counted : (k : Setting) (past : List (List ℕ)) → high_at k past ≡ None → counts_known k past (is_forgotten (high_at k past)) ≡ no_counts
unfolding made-counts
nothing-counted k past none =
    let es = events_at k past in
    let ads = adverts_at k past in
    ap (λ h. counts_known k past (is_forgotten h)) none
    ∙ ap (λ n. made-counts n (count_by (λ (e : Standing). false) es) (count_by (λ (e : Standing). false) es)) (count-none (λ (e : Standing). false) es (λ e. refl))
    ∙ ap (λ n. made-counts 0 n (count_by (λ (e : Standing). false) es)) (count-none (λ (e : Standing). false) es (λ e. refl))
    ∙ ap (λ n. made-counts 0 0 n) (count-none (λ (e : Standing). false) es (λ e. refl))

module _ (k : Setting) (p : List ℕ) (past : List (List ℕ)) (known : known_map (Some k.program) past ≡ None) (off : on k.cue_pid p ≡ false) where
  switched-none : switched_at k past ≡ []
  switched-none = ap (λ o. pids_of (option_map program_in o)) known

  behind-none : behind_at k past ≡ []
  behind-none = nothing_behind (Some k.program) past known

  behind-still : behind_at k (p ∷ past) ≡ []
  behind-still = ap (λ o. if is_some o then p ∷ behind_head (Some k.program) past else []) known

  high-none : high_at k past ≡ None
  high-none = ap (high (switched_at k past)) behind-none

  high-still : high_at k (p ∷ past) ≡ None
  high-still = ap (high (switched_at k (p ∷ past))) behind-still

  heard-still : heard k.cue_pid (high_at k) (p ∷ past) ≡ heard k.cue_pid (high_at k) past
  heard-still = heard-off k.cue_pid (high_at k) p past off

  standing-still : standing k.cue_pid (high_at k) (p ∷ past) ≡ standing k.cue_pid (high_at k) past
  standing-still = ap (λ l. standing_at l (events_at k (p ∷ past))) (high-still ∙ sym high-none) ∙ ap (λ (h : Heard). standing_at (high_at k past) h.events) heard-still

  plans-none : (start : ℤ) → plans_at k past (behind_at k past) start ≡ nothing_known
  plans-none start =
      ap (λ b. plans_at k past b start) behind-none
      ∙ at-nothing (switched_at k past) (adverts_at k past) (history_at k past) (let n = ap length switched-none in omega (arith, n)) (events_at k past) start

  plans-still : length (switched_at k (p ∷ past)) ≤ 8 → (start : ℤ) → plans_at k (p ∷ past) (behind_at k (p ∷ past)) start ≡ nothing_known
  plans-still few start =
      ap (λ b. plans_at k (p ∷ past) b start) behind-still ∙ at-nothing (switched_at k (p ∷ past)) (adverts_at k (p ∷ past)) (history_at k (p ∷ past)) few (events_at k (p ∷ past)) start

  inside-still : (pid : ℕ) → inside_at k (p ∷ past) (behind_at k (p ∷ past)) pid ≡ false
  inside-still pid = ap (λ b. inside_at k (p ∷ past) b pid) behind-still ∙ nothing-holds (adverts_at k (p ∷ past)) (events_at k (p ∷ past))

  next-still : (steps : PidSteps) (pid : ℕ) → counted_next k steps p past pid ≡ []
  next-still steps pid = ap (λ o. (if is_some (option_map program_in o) then counted_with k steps p past else (λ pid. [])) pid) known

  goes-still : (s : SwitchedStream) (steps : PidSteps) (o : Option ℕ) → Counts s.counter [] × (s.is_leaving ≡ false) → GoesAs s (inside_at k (p ∷ past) (behind_at k (p ∷ past))) (counted_next k steps p past) o
  goes-still s steps None g = g
  goes-still s steps (Some pid) g =
      record { counter = subst (λ l. Counts s.counter l) (sym (next-still steps pid)) g.0; leaving = g.1 ∙ sym (inside-still pid) }

  pub plays-head : length (switched_at k (p ∷ past)) ≤ 8 → (playing : Playing) (steps : PidSteps) → PlaysBy playing k past steps → PlaysBy playing k (p ∷ past) (counted_next k steps p past)
  plays-head few playing steps h = record {
    events = record {
      waits = waits_off playing.events.assembler k.cue_pid p past off h.events.waits;
      obeyed = subst (λ l. ObeyedFor playing.events.obeyed l (heard k.cue_pid (high_at k) (p ∷ past))) (high-none ∙ sym high-still)
          (subst (λ (g : Heard). ObeyedFor playing.events.obeyed (high_at k past) g) (sym heard-still) h.events.obeyed);
    };
    plans = h.plans
        ∙ values-same (plans_at k past (behind_at k past)) (plans_at k (p ∷ past) (behind_at k (p ∷ past))) (standing k.cue_pid (high_at k) past) (λ start. plans-none start ∙ sym (plans-still few start))
        ∙ ap (values_by (plans_at k (p ∷ past) (behind_at k (p ∷ past)))) (sym standing-still);
    streams = λ i s below.
        goes-still (slice_index_or playing.streams i s) steps (slice_get (switched_at k (p ∷ past)) i)
        (subst (λ sw. GoesAs (slice_index_or playing.streams i s) (inside_at k past (behind_at k past)) steps (slice_get sw i)) switched-none (h.streams i s below));
    leaving = first-taken k playing.leaving playing.streams p past known;
    forgotten = subst (λ c. ReportIs playing.forgotten c) (nothing-counted k past high-none ∙ sym (nothing-counted k (p ∷ past) high-still)) h.forgotten;
    all_out = λ out filed is number of listed.
        let es = standing k.cue_pid (high_at k) (p ∷ past) in
        let plans = plans_at k (p ∷ past) (behind_at k (p ∷ past)) in
        subst (NoneDueOf filed (streams_at k (p ∷ past)) (high_at k (p ∷ past)) number of)
        (sym (none-found filed (streams_at k (p ∷ past)) number of es (values_by plans es) (nothing-begun plans (plans-still few) es))) tt;
  }

-- ---- a packet of none of the streams, and of another PID than that of the cues

pub plays-quiet : (playing : Playing) (k : Setting) (p : List ℕ) (past : List (List ℕ)) → on k.cue_pid p ≡ false → on_one (switched_at k past) p ≡ false → length (switched_at k (p ∷ past)) ≤ 8
    → (steps : PidSteps) → PlaysBy playing k past steps → PlaysBy playing k (p ∷ past) (counted_next k steps p past)
plays-quiet playing k p past off other few steps h = by (known_map (Some k.program) past) refl
  where
    by : (o : Option ProgramMap) → known_map (Some k.program) past ≡ o → PlaysBy playing k (p ∷ past) (counted_next k steps p past)
    by None known = plays-head k p past known off few playing steps h
    by (Some m) known =
        let none = begins_off_all (switched_at k past) p (behind_at k past) other in
        plays-behind k p past m known off none playing steps (plays-passed playing k p past other steps (plays-before playing k p past none (high-more k p past m known off none) steps h))

-- before a packet of one of the streams that begins no unit
pub plays-on : (playing : Playing) (k : Setting) (p : List ℕ) (past : List (List ℕ)) → on k.cue_pid p ≡ false → on_one (switched_at k past) p ≡ true
    → begins_one (switched_at k past) p (behind_at k past) ≡ false → (steps : PidSteps) → PlaysBy playing k past steps → PlaysBefore playing k p past steps
plays-on playing k p past off own none steps h = by (known_map (Some k.program) past) refl
  where
    by : (o : Option ProgramMap) → known_map (Some k.program) past ≡ o → PlaysBefore playing k p past steps
    by None known = absurd (true≢false (sym own ∙ ap (λ o. on_one (pids_of (option_map program_in o)) p) known))
    by (Some m) known = plays-before playing k p past none (high-more k p past m known off none) steps h

-- and behind it
pub plays-after : (playing : Playing) (k : Setting) (p : List ℕ) (past : List (List ℕ)) → on k.cue_pid p ≡ false → on_one (switched_at k past) p ≡ true
    → begins_one (switched_at k past) p (behind_at k past) ≡ false → (steps : PidSteps) → PlaysBehind playing k p past steps → PlaysBy playing k (p ∷ past) (counted_next k steps p past)
plays-after playing k p past off own none steps h = by (known_map (Some k.program) past) refl
  where
    by : (o : Option ProgramMap) → known_map (Some k.program) past ≡ o → PlaysBy playing k (p ∷ past) (counted_next k steps p past)
    by None known = absurd (true≢false (sym own ∙ ap (λ o. on_one (pids_of (option_map program_in o)) p) known))
    by (Some m) known = plays-behind k p past m known off none playing steps h
