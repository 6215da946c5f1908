use Rattle.std.proofs.Common.{sym, ap, subst, ◌∙◌}
use Rattle.program_follower.specs.Program.{program_of, behind_head, pids_of}
use Rattle.program_follower.specs.Faults.{as_network}
use Rattle.program_follower.specs.Streaming.{StartsRead}
use Rattle.program_follower.specs.Following.{Since}
use Rattle.program_follower.proofs.PlaceLemmas.{no_place, unplaced}
use Rattle.program_follower.proofs.ElsewhereLemmas.{fault_elsewhere}
use Rattle.program_follower.proofs.UseLemmas.{uses_passed, streams_off, streams_fed, since_read, sound_off}
use Rattle.program_follower.proofs.start_follower.StartFollower.feed_stream.Goals as goal

pub returns-then-error-clause-stands : goal.returns-then-error-clause-stands
returns-then-error-clause-stands c = λ k past h e at.
    let p = c.args.packet.now in
    let pids = pids_of (program_of k.program past) in
    record {
      tables = c.pass.ensures.reads k p past e h.tables;
      streams = streams_off k p past e c.args.self.now.streams (unplaced pids p (no_place pids p (sym c.error.ensures ∙ c.if-error.true))) h.streams;
      uses = uses_passed c.args.self.now.uses k p past h.uses e;
    }

pub returns-then-error-clause-sound : goal.returns-then-error-clause-sound
returns-then-error-clause-sound c = λ k past h e at.
    let p = c.args.packet.now in
    let pids = pids_of (program_of k.program past) in
    sound_off k p past e c.args.self.now.tables.maps h.tables.maps (unplaced pids p (no_place pids p (sym c.error.ensures ∙ c.if-error.true)))

pub returns-then-error-clause-place : goal.returns-then-error-clause-place
returns-then-error-clause-place c = λ k past h e at.
    let p = c.args.packet.now in
    let pids = pids_of (program_of k.program past) in
    (e.cue, e.map, unplaced pids p (no_place pids p (sym c.error.ensures ∙ c.if-error.true)))

pub returns-in-Ok-clause-stands : goal.returns-in-Ok-clause-stands
returns-in-Ok-clause-stands c = λ k past h e at.
    let p = c.args.packet.now in
    let here = at (sym c.error.ensures ∙ c.if-error.false) in
    record {
      tables = c.pass.ensures.reads k p past e h.tables;
      streams = streams_fed k p past e c.in-Some.streams c.feed_stream.new.self (subst (λ s. Since StartsRead s (program_of k.program past) (behind_head k.program past)) c.in-Some.is h.streams)
          (λ r. c.in-Ok.ensures.reads (pids_of (program_of k.program past)) (behind_head k.program past) here r);
      uses = uses_passed c.args.self.now.uses k p past h.uses e;
    }

pub returns-in-Ok-clause-sound : goal.returns-in-Ok-clause-sound
returns-in-Ok-clause-sound c = λ k past h e at.
    let p = c.args.packet.now in
    let b = behind_head k.program past in
    let here = at (sym c.error.ensures ∙ c.if-error.false) in
    let r = since_read c.in-Some.streams (program_of k.program past) b (subst (λ s. Since StartsRead s (program_of k.program past) b) c.in-Some.is h.streams) in
    fault_elsewhere k p past e c.args.self.now.tables.maps h.tables.maps ∙ ap as_network (c.in-Ok.ensures.ok (pids_of (program_of k.program past)) b here r)

pub returns-in-Err-clause-err : goal.returns-in-Err-clause-err
returns-in-Err-clause-err c = λ k past h e at.
    let p = c.args.packet.now in
    let b = behind_head k.program past in
    let here = at (sym c.error.ensures ∙ c.if-error.false) in
    let r = since_read c.in-Some.streams (program_of k.program past) b (subst (λ s. Since StartsRead s (program_of k.program past) b) c.in-Some.is h.streams) in
    fault_elsewhere k p past e c.args.self.now.tables.maps h.tables.maps ∙ ap as_network (c.in-Err.ensures.err (pids_of (program_of k.program past)) b here r) ∙ c.of_unit.ensures
