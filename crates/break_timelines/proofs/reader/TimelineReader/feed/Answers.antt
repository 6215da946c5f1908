use Rattle.std.proofs.Common.{◌≡◌, None}
use Rattle.program_follower.specs.Faults.{network_fault}
use Rattle.break_timelines.specs.Standing.{ReaderMeets}
use Rattle.break_timelines.specs.Timelines.{planning, timed_at}
use Rattle.break_timelines.proofs.RiseLemmas.{follows}
use Rattle.break_timelines.proofs.reader.TimelineReader.feed.Goals as goal

pub returns-in-Err-clause-err : goal.returns-in-Err-clause-err
returns-in-Err-clause-err c = λ program past s. c.in-Err.ensures.err (planning program) past s.follower

pub returns-in-Ok-take-clause-stands : goal.returns-in-Ok-take-clause-stands
returns-in-Ok-take-clause-stands c = λ program past s.
    let p = c.args.packet.now in
    let good : network_fault (planning program) p past ≡ None = c.in-Ok.ensures.sound (planning program) past s.follower in
    let m : ReaderMeets _ program p past = record {
      follower = c.in-Ok.ensures.stands (planning program) past s.follower;
      packets = s.packets;
      high = s.high;
      is_past = s.is_past;
      follows = follows program p past good;
      first = s.first;
      begun = s.begun;
      pictures = s.pictures;
      marks = s.marks;
    } in
    let timed : c.in-Ok-timed_at.timed ≡ timed_at program p past
    = c.in-Ok-timed_at.ensures program p past (c.in-Ok.ensures.place (planning program) past s.follower) s.high s.is_past in
    c.in-Ok-take.ensures program past m timed (c.begun_at-begun.ensures program past m timed)
    (c.in-Ok-rise.ensures program p past m (c.high-earlier.ensures (planning program) past s.follower))

pub returns-in-Ok-take-clause-sound : goal.returns-in-Ok-take-clause-sound
returns-in-Ok-take-clause-sound c = λ program past s. c.in-Ok.ensures.sound (planning program) past s.follower
