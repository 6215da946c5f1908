use Rattle.ad_library.specs.Library.{held}
use Rattle.program_follower.specs.Purposes.{reading_cues}
use Rattle.program_follower.specs.declared.start_follower.StartPlace.TheVariants.{Stream}
use Rattle.splice_switch.specs.Standing.{IsFollowedAs}
use Rattle.splice_switch.proofs.switch.Switch.put_part.Goals as goal

pub returns-in-Ok-clause-ok : goal.returns-in-Ok-clause-ok
returns-in-Ok-clause-ok g c = λ start ps cfg x h b.
    let p = c.args.packet.now in
    let fed : IsFollowedAs (record c.args.self.now { follower = c.go_on.new.self }) (Stream c.args.of.stream c.args.of.part) cfg (held c.args.library.now) p x =
    record {
      cue_pid = b.stands.cue_pid;
      follower = c.go_on.ensures.stands (reading_cues cfg) x.read b.stands.follower b.part;
      shows = c.go_on.ensures.shows (reading_cues cfg) x.read b.stands.follower b.part;
      clean = b.stands.clean;
      sound = b.part.sound;
      place_is = (b.part.elsewhere.cue, b.part.elsewhere.map, b.part.place);
      playing = b.stands.playing;
      numbers = record { passed = b.stands.numbers.passed; put = b.stands.numbers.put; go_on = b.stands.numbers.go_on };
      whole = b.stands.whole;
    } in
    c.in-Ok.ensures.ok start ps cfg x h fed

pub returns-in-Ok-clause-stands : goal.returns-in-Ok-clause-stands
returns-in-Ok-clause-stands g c = λ cfg x b.
    let p = c.args.packet.now in
    let fed : IsFollowedAs (record c.args.self.now { follower = c.go_on.new.self }) (Stream c.args.of.stream c.args.of.part) cfg (held c.args.library.now) p x =
    record {
      cue_pid = b.stands.cue_pid;
      follower = c.go_on.ensures.stands (reading_cues cfg) x.read b.stands.follower b.part;
      shows = c.go_on.ensures.shows (reading_cues cfg) x.read b.stands.follower b.part;
      clean = b.stands.clean;
      sound = b.part.sound;
      place_is = (b.part.elsewhere.cue, b.part.elsewhere.map, b.part.place);
      playing = b.stands.playing;
      numbers = record { passed = b.stands.numbers.passed; put = b.stands.numbers.put; go_on = b.stands.numbers.go_on };
      whole = b.stands.whole;
    } in
    c.in-Ok.ensures.stands cfg x fed

pub returns-in-Ok-clause-turns : goal.returns-in-Ok-clause-turns
returns-in-Ok-clause-turns g c = λ cfg x b.
    let p = c.args.packet.now in
    let fed : IsFollowedAs (record c.args.self.now { follower = c.go_on.new.self }) (Stream c.args.of.stream c.args.of.part) cfg (held c.args.library.now) p x =
    record {
      cue_pid = b.stands.cue_pid;
      follower = c.go_on.ensures.stands (reading_cues cfg) x.read b.stands.follower b.part;
      shows = c.go_on.ensures.shows (reading_cues cfg) x.read b.stands.follower b.part;
      clean = b.stands.clean;
      sound = b.part.sound;
      place_is = (b.part.elsewhere.cue, b.part.elsewhere.map, b.part.place);
      playing = b.stands.playing;
      numbers = record { passed = b.stands.numbers.passed; put = b.stands.numbers.put; go_on = b.stands.numbers.go_on };
      whole = b.stands.whole;
    } in
    c.in-Ok.ensures.turns cfg x fed

pub returns-in-Err-clause-err : goal.returns-in-Err-clause-err
returns-in-Err-clause-err g c = λ start ps cfg x h b.
    let p = c.args.packet.now in
    let fed : IsFollowedAs (record c.args.self.now { follower = c.go_on.new.self }) (Stream c.args.of.stream c.args.of.part) cfg (held c.args.library.now) p x =
    record {
      cue_pid = b.stands.cue_pid;
      follower = c.go_on.ensures.stands (reading_cues cfg) x.read b.stands.follower b.part;
      shows = c.go_on.ensures.shows (reading_cues cfg) x.read b.stands.follower b.part;
      clean = b.stands.clean;
      sound = b.part.sound;
      place_is = (b.part.elsewhere.cue, b.part.elsewhere.map, b.part.place);
      playing = b.stands.playing;
      numbers = record { passed = b.stands.numbers.passed; put = b.stands.numbers.put; go_on = b.stands.numbers.go_on };
      whole = b.stands.whole;
    } in
    c.in-Err.ensures.err start ps cfg x h fed
