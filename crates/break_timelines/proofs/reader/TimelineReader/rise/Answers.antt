use Rattle.std.proofs.Common.{◌≡◌, ◌∷◌, ◌+◌, length, ap, ◌∙◌, Some, arith}
use Rattle.program_follower.specs.Following.{high_of}
use Rattle.break_timelines.specs.Timelines.{planning, risen}
use Rattle.break_timelines.proofs.RiseLemmas.{past_after}
use Rattle.break_timelines.proofs.reader.TimelineReader.rise.Goals as goal

pub returns-in-Ok : goal.returns-in-Ok
returns-in-Ok c = λ program p past m earlier.
    let before = high_of (Some program) past in
    let after = high_of (Some program) (p ∷ past) in
    let high = c.in-Ok.ensures before after m.high earlier (c.high.ensures (planning program) (p ∷ past) m.follower) m.is_past m.follows in
    let packets : c.in-Some.packets ≡ length past + 1 = omega (arith, c.in-Some.ensures, m.packets) in
    record {
      packets = packets;
      high = high;
      is_past = past_after before after m.is_past m.follows;
      mark = c.mark_of.ensures before after m.high high m.is_past m.follows ∙ ap (risen before after) packets;
    }
