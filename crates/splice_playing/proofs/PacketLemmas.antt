-- What the relation comes to with one packet more.
use Rattle.std.proofs.Common.{◌≡◌, ℕ, ◌∷◌, List, [], true, false, if◌then◌else◌, refl, sym, ap, ◌∙◌, subst, Option, None, Some, replicate}
use Rattle.std.specs.Prelude.{ℤ, option_map, is_some, slice_get}
use Rattle.std.proofs.lemmas.Bool.{true≢false}
use Rattle.std.proofs.lemmas.Option.{none-some, same_Some}
use Rattle.pes_time.specs.Line.{ring_of}
use Rattle.psi_section.proofs.AssemblerLemmas.{waits_off}
use Rattle.psi_tables.specs.ProgramMap.{ProgramMap}
use Rattle.program_follower.specs.Program.{Program, program_of, program_in, known_map, pids_of}
use Rattle.event_table.specs.Rings.{CanAdvance}
use Rattle.event_table.specs.declared.table.Table.{Table}
use Rattle.event_table.specs.Standing.{Standing, IsTimeAt, still_standing}
use Rattle.event_table.specs.Tables.{StandsFor, values_of}
use Rattle.armed_events.specs.Arming.{Heard, heard, standing, standing_at, armed}
use Rattle.armed_events.specs.declared.obeying.ArmedEvents.{ArmedEvents}
use Rattle.armed_events.specs.Obeying.{Obeys, ObeyedFor}
use Rattle.armed_events.specs.Valuing.{values_by}
use Rattle.armed_events.proofs.PastLemmas.{heard-off, risen}
use Rattle.ad_library.specs.Advertisements.{Advertisement}
use Rattle.psi_tables.specs.declared.stream.Stream.{Stream as ListedStream}
use Rattle.splice_plans.specs.declared.plan.Plan.{Plan}
use Rattle.splice_plans.specs.declared.stream.SwitchedStream.{SwitchedStream}
use Rattle.splice_plans.specs.Turning.{waiting}
use Rattle.splice_plans.specs.Playing.{Adverts}
use Rattle.splice_plans.specs.Histories.{AreSteady}
use Rattle.splice_plans.specs.Adverts.{adverts_of}
use Rattle.splice_plans.specs.Reporting.{ReportIs}
use Rattle.splice_plans.specs.Counters.{PidSteps}
use Rattle.splice_plans.specs.Switching.{Setting, switched_at, streams_at, high_at, is_behind_head}
use Rattle.splice_plans.specs.Known.{nothing_known, AllGo, adverts_at, behind_at, plans_at, inside_at}
use Rattle.splice_plans.specs.Stepping.{counted_next}
use Rattle.splice_plans.proofs.AdvertLemmas.{libraries_are_steady}
use Rattle.known_laws.specs.Laws.{PassesOn}
use Rattle.splice_playing.specs.declared.playing.Playing.{Playing}
use Rattle.splice_playing.specs.declared.leaving.LeavingUnit.{LeavingUnit}
use Rattle.splice_playing.specs.Leaving.{AllTaken}
use Rattle.splice_playing.proofs.LeavingLemmas.{taken-behind}
use Rattle.splice_playing.specs.Dues.{NoneDue, NoneDueAt, NoneDueWith}
use Rattle.splice_playing.specs.Relations.{PlaysBy, PlaysBehind, BeginsIn, counted_with}
use Rattle.known_laws.proofs.HeadLemmas.{same-streams}
use Rattle.known_laws.proofs.PassLemmas.{packets_pass}

-- an event that nothing is known of
pub new-is : (plan : Plan) → plan.parts ≡ replicate 8 waiting → plan.is_crossed ≡ false → plan ≡ nothing_known
new-is plan h k = ap (λ ps. record { parts = ps; is_crossed = plan.is_crossed }) h ∙ ap (λ b. record { parts = replicate 8 waiting; is_crossed = b }) k

-- behind the head, where a stream is switched
pub behind-by : (k : Setting) (past : List (List ℕ)) (n pid : ℕ) → slice_get (switched_at k past) n ≡ Some pid → is_behind_head k past ≡ true
behind-by k past n pid of = by (program_of (Some k.program) past) of
  where
    by : (o : Option Program) → slice_get (pids_of o) n ≡ Some pid → is_some o ≡ true
    by None h = absurd (none-some pid h)
    by (Some r) h = refl

pub steady-by : (k : Setting) (filed : ℕ → Option Advertisement) (past : List (List ℕ)) → k.adverts ≡ adverts_of filed → AreSteady (adverts_at k past)
steady-by k filed past is = subst (λ (f : List ListedStream → Adverts). AreSteady (f (streams_at k past))) (sym is) (libraries_are_steady filed (streams_at k past))

-- behind the head the streams stay
pub streams-stay : (k : Setting) (p : List ℕ) (past : List (List ℕ)) → is_behind_head k past ≡ true → streams_at k (p ∷ past) ≡ streams_at k past
streams-stay k p past b = by (known_map (Some k.program) past) refl b
  where
    by : (o : Option ProgramMap) → known_map (Some k.program) past ≡ o → is_some (option_map program_in o) ≡ true → streams_at k (p ∷ past) ≡ streams_at k past
    by None is b = absurd (true≢false (sym b))
    by (Some m) is b = same-streams k p past m is

module _ (k : Setting) (filed : ℕ → Option Advertisement) (listed : List ListedStream) (number : ℕ) (time high : Option ℕ) (p : List ℕ) (past : List (List ℕ)) (i : BeginsIn k filed listed number time high p past) where
  pub passes : PassesOn k p past
  passes = packets_pass k p past (behind-by k past number i.pid i.of) i.cue (steady-by k filed past i.adverts_are) i.sound

  pub adverts-are : adverts_of filed listed ≡ adverts_at k past
  adverts-are = ap (adverts_of filed) i.listed_is ∙ ap (λ (f : List ListedStream → Adverts). f (streams_at k past)) (sym i.adverts_are)

  none-by : (o : Option ℤ) → option_map ring_of o ≡ None → o ≡ None
  none-by None h = refl
  none-by (Some t) h = absurd (none-some (ring_of t) (sym h))

  -- no greatest time
  pub none-high : high ≡ None → high_at k (p ∷ past) ≡ None
  none-high h = none-by (high_at k (p ∷ past)) (sym i.high_is ∙ h)

  some-by : (o : Option ℤ) (h : ℕ) → option_map ring_of o ≡ Some h → (later : ℤ) × (o ≡ Some later) × (ring_of later ≡ h)
  some-by None h is = absurd (none-some h is)
  some-by (Some t) h is = (t, refl, same_Some (ring_of t) h is)

  pub some-high : (h : ℕ) → high ≡ Some h → (later : ℤ) × (high_at k (p ∷ past) ≡ Some later) × (ring_of later ≡ h)
  some-high h is = some-by (high_at k (p ∷ past)) h (sym i.high_is ∙ is)

  heard-same : heard k.cue_pid (high_at k) (p ∷ past) ≡ heard k.cue_pid (high_at k) past
  heard-same = heard-off k.cue_pid (high_at k) p past i.cue

  -- where none of the events that stand is forgotten by it, the same stand
  pub standing-still : (table : Table Plan) (latest : ℕ) (later : ℤ) → StandsFor table (high_at k past) (standing k.cue_pid (high_at k) past) → CanAdvance table.last latest → IsTimeAt (high_at k past) latest later
      → high_at k (p ∷ past) ≡ Some later → still_standing later (standing k.cue_pid (high_at k) past) ≡ standing k.cue_pid (high_at k) past
      → standing k.cue_pid (high_at k) (p ∷ past) ≡ standing k.cue_pid (high_at k) past
  standing-still table latest later stands can at is all =
      ap (λ (x : Heard). standing_at (high_at k (p ∷ past)) x.events) heard-same ∙ ap (λ h. standing_at h (armed k.cue_pid (high_at k) past)) is
      ∙ sym (risen table (high_at k past) later latest (standing k.cue_pid (high_at k) past) stands can at (armed k.cue_pid (high_at k) past)) ∙ all

  -- and nothing is due of them still
  pub none-due-pass : standing k.cue_pid (high_at k) (p ∷ past) ≡ standing k.cue_pid (high_at k) past → NoneDueWith k p past → NoneDueAt k (p ∷ past)
  none-due-pass same h = λ library is.
      let es = standing k.cue_pid (high_at k) past in
      let later = high_at k (p ∷ past) in
      let plans = plans_at k past (p ∷ behind_at k past) in
      let plans' = plans_at k (p ∷ past) (behind_at k (p ∷ past)) in
      let streams = streams_at k (p ∷ past) in
      subst (λ l. NoneDue library streams later l (values_by plans' l)) (sym same)
      (subst (λ f. NoneDue library streams later es (values_by f es)) (sym passes.plans)
      (subst (λ ss. NoneDue library ss later es (values_by plans es)) (sym (streams-stay k p past (behind-by k past number i.pid i.of))) (h library is)))

  module _ (same : high_at k (p ∷ past) ≡ high_at k past) where
    pub standing-same : standing k.cue_pid (high_at k) (p ∷ past) ≡ standing k.cue_pid (high_at k) past
    standing-same = ap (λ (x : Heard). standing_at (high_at k (p ∷ past)) x.events) heard-same ∙ ap (λ h. standing_at h (armed k.cue_pid (high_at k) past)) same

    pub obeys-same : (events : ArmedEvents Plan) → Obeys events k.cue_pid (high_at k) past → Obeys events k.cue_pid (high_at k) (p ∷ past)
    obeys-same events o = record {
      waits = waits_off events.assembler k.cue_pid p past i.cue o.waits;
      obeyed = subst (λ (x : Heard). ObeyedFor events.obeyed (high_at k (p ∷ past)) x) (sym heard-same)
          (subst (λ h. ObeyedFor events.obeyed h (heard k.cue_pid (high_at k) past)) (sym same) o.obeyed);
    }

  pub values-pass : (values : List Plan) (es : List Standing) → values ≡ values_by (plans_at k past (p ∷ behind_at k past)) es → values ≡ values_by (plans_at k (p ∷ past) (behind_at k (p ∷ past))) es
  values-pass values es h = h ∙ ap (λ f. values_by f es) (sym passes.plans)

  next-is : (steps : PidSteps) → counted_next k steps p past ≡ counted_with k steps p past
  next-is steps = ap (λ b. if b then counted_with k steps p past else (λ pid. [])) (behind-by k past number i.pid i.of)

  pub streams-pass : (streams : List SwitchedStream) (steps : PidSteps)
      → AllGo streams (inside_at k past (p ∷ behind_at k past)) (counted_with k steps p past) (switched_at k past)
      → AllGo streams (inside_at k (p ∷ past) (behind_at k (p ∷ past))) (counted_next k steps p past) (switched_at k (p ∷ past))
  streams-pass streams steps all =
      subst (λ f. AllGo streams f (counted_next k steps p past) (switched_at k (p ∷ past))) (sym passes.inside)
      (subst (λ (next : PidSteps). AllGo streams (inside_at k past (p ∷ behind_at k past)) next (switched_at k (p ∷ past))) (sym (next-is steps))
      (subst (λ sw. AllGo streams (inside_at k past (p ∷ behind_at k past)) (counted_with k steps p past) sw) (sym passes.switched) all))

  pub taken-pass : (units : List LeavingUnit) (streams : List SwitchedStream) → AllTaken units streams (switched_at k past) (p ∷ behind_at k past) → AllTaken units streams (switched_at k (p ∷ past)) (behind_at k (p ∷ past))
  taken-pass units streams all = taken-behind k units streams p past (behind-by k past number i.pid i.of) all

  -- with the same greatest time
  pub stays-for : (playing : Playing) → high_at k (p ∷ past) ≡ high_at k past → (steps : PidSteps) → PlaysBehind playing k p past steps → PlaysBy playing k (p ∷ past) (counted_next k steps p past)
  stays-for playing same steps b = record {
    events = obeys-same same playing.events b.events;
    plans = values-pass (values_of playing.events.obeyed.table) (standing k.cue_pid (high_at k) (p ∷ past)) (b.plans ∙ ap (values_by (plans_at k past (p ∷ behind_at k past))) (sym (standing-same same)));
    streams = streams-pass playing.streams steps b.streams;
    leaving = taken-pass playing.leaving playing.streams b.leaving;
    forgotten = subst (ReportIs playing.forgotten) (sym (passes.same same)) b.forgotten;
    all_out = λ out. none-due-pass (standing-same same) (b.all_out out);
  }
