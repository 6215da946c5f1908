use Rattle.std.proofs.Common.{false, lit<}
use Rattle.splice_plans.specs.declared.stream.SwitchedStream.{SwitchedStream}
use Rattle.splice_plans.specs.Adverts.{setting_of}
use Rattle.splice_playing.proofs.BesideLemmas.{counted-at}
use Rattle.splice_switch.proofs.switch.Switch.put_beside.Goals as goal

pub returns-clause-puts : goal.returns-clause-puts
returns-clause-puts g c = λ start ps cfg filed x i h b.
    let d : SwitchedStream = record { counter = record { shift = 0; upcoming = 0; shift_below = lit< tt; upcoming_below = lit< tt }; is_leaving = false } in
    c.put_beside.ensures.ok start ps d (x.counted i.pid) h (counted-at (setting_of cfg filed) c.args.stream c.args.packet.now x.read i c.args.self.now.playing x.counted d b.playing)

pub returns-clause-stands : goal.returns-clause-stands
returns-clause-stands g c = λ cfg filed x i b. record {
  cue_pid = b.cue_pid;
  follower = b.follower;
  clean = b.clean;
  playing = c.put_beside.ensures.plays (setting_of cfg filed) x.read x.counted b.playing i;
  numbers = record { passed = b.numbers.passed; put = b.numbers.put; go_on = b.numbers.go_on };
  whole = b.whole;
}
