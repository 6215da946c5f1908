use Rattle.ad_library.specs.Library.{held}
use Rattle.program_follower.specs.Purposes.{reading_cues}
use Rattle.splice_switch.specs.Standing.{IsFollowedAs}
use Rattle.splice_switch.proofs.switch.Switch.take.Goals as goal

pub returns-in-Ok-put-clause-ok : goal.returns-in-Ok-put-clause-ok
returns-in-Ok-put-clause-ok g c = λ start ps cfg x h b.
    let p = c.args.packet.now in
    let fed : IsFollowedAs (record c.args.self.now { follower = c.feed.new.self }) c.in-Ok-feed.place cfg (held c.args.library.now) p x =
    record {
      cue_pid = b.cue_pid;
      follower = c.in-Ok-feed.ensures.stands (reading_cues cfg) x.read b.follower;
      shows = c.in-Ok-feed.ensures.shows (reading_cues cfg) x.read b.follower;
      clean = b.clean;
      sound = c.in-Ok-feed.ensures.sound (reading_cues cfg) x.read b.follower;
      place_is = c.in-Ok-feed.ensures.place (reading_cues cfg) x.read b.follower;
      playing = b.playing;
      numbers = record { passed = b.numbers.passed; put = b.numbers.put; go_on = b.numbers.go_on };
      whole = b.whole;
    } in
    c.in-Ok-put.ensures.ok start ps cfg x h fed

pub returns-in-Ok-put-clause-stands : goal.returns-in-Ok-put-clause-stands
returns-in-Ok-put-clause-stands g c = λ cfg x b.
    let p = c.args.packet.now in
    let fed : IsFollowedAs (record c.args.self.now { follower = c.feed.new.self }) c.in-Ok-feed.place cfg (held c.args.library.now) p x =
    record {
      cue_pid = b.cue_pid;
      follower = c.in-Ok-feed.ensures.stands (reading_cues cfg) x.read b.follower;
      shows = c.in-Ok-feed.ensures.shows (reading_cues cfg) x.read b.follower;
      clean = b.clean;
      sound = c.in-Ok-feed.ensures.sound (reading_cues cfg) x.read b.follower;
      place_is = c.in-Ok-feed.ensures.place (reading_cues cfg) x.read b.follower;
      playing = b.playing;
      numbers = record { passed = b.numbers.passed; put = b.numbers.put; go_on = b.numbers.go_on };
      whole = b.whole;
    } in
    c.in-Ok-put.ensures.stands cfg x fed

pub returns-in-Ok-put-clause-turns : goal.returns-in-Ok-put-clause-turns
returns-in-Ok-put-clause-turns g c = λ cfg x b.
    let p = c.args.packet.now in
    let fed : IsFollowedAs (record c.args.self.now { follower = c.feed.new.self }) c.in-Ok-feed.place cfg (held c.args.library.now) p x =
    record {
      cue_pid = b.cue_pid;
      follower = c.in-Ok-feed.ensures.stands (reading_cues cfg) x.read b.follower;
      shows = c.in-Ok-feed.ensures.shows (reading_cues cfg) x.read b.follower;
      clean = b.clean;
      sound = c.in-Ok-feed.ensures.sound (reading_cues cfg) x.read b.follower;
      place_is = c.in-Ok-feed.ensures.place (reading_cues cfg) x.read b.follower;
      playing = b.playing;
      numbers = record { passed = b.numbers.passed; put = b.numbers.put; go_on = b.numbers.go_on };
      whole = b.whole;
    } in
    c.in-Ok-put.ensures.turns cfg x fed

pub returns-in-Ok-put-clause-sound : goal.returns-in-Ok-put-clause-sound
returns-in-Ok-put-clause-sound g c = λ cfg x b. c.in-Ok-feed.ensures.sound (reading_cues cfg) x.read b.follower

pub returns-in-Err-put-clause-err : goal.returns-in-Err-put-clause-err
returns-in-Err-put-clause-err g c = λ start ps cfg x h b.
    let p = c.args.packet.now in
    let fed : IsFollowedAs (record c.args.self.now { follower = c.feed.new.self }) c.in-Ok-feed.place cfg (held c.args.library.now) p x =
    record {
      cue_pid = b.cue_pid;
      follower = c.in-Ok-feed.ensures.stands (reading_cues cfg) x.read b.follower;
      shows = c.in-Ok-feed.ensures.shows (reading_cues cfg) x.read b.follower;
      clean = b.clean;
      sound = c.in-Ok-feed.ensures.sound (reading_cues cfg) x.read b.follower;
      place_is = c.in-Ok-feed.ensures.place (reading_cues cfg) x.read b.follower;
      playing = b.playing;
      numbers = record { passed = b.numbers.passed; put = b.numbers.put; go_on = b.numbers.go_on };
      whole = b.whole;
    } in
    c.in-Err-put.ensures.err start ps cfg x h fed

pub returns-in-Err-feed-clause-err : goal.returns-in-Err-feed-clause-err
returns-in-Err-feed-clause-err g c = λ start ps cfg x h b. c.in-Err-feed.ensures.err (reading_cues cfg) x.read b.follower

pub returns-in-Ok-clause-ok : goal.returns-in-Ok-clause-ok
returns-in-Ok-clause-ok g c = λ start ps cfg x h b. c.in-Ok.ensures.ok start ps cfg x h (record { stands = b; part = c.in-Some.ensures.goes_on (reading_cues cfg) x.read b.follower })

pub returns-in-Ok-clause-stands : goal.returns-in-Ok-clause-stands
returns-in-Ok-clause-stands g c = λ cfg x b. c.in-Ok.ensures.stands cfg x (record { stands = b; part = c.in-Some.ensures.goes_on (reading_cues cfg) x.read b.follower })

pub returns-in-Ok-clause-turns : goal.returns-in-Ok-clause-turns
returns-in-Ok-clause-turns g c = λ cfg x b. c.in-Ok.ensures.turns cfg x (record { stands = b; part = c.in-Some.ensures.goes_on (reading_cues cfg) x.read b.follower })

pub returns-in-Ok-clause-sound : goal.returns-in-Ok-clause-sound
returns-in-Ok-clause-sound g c = λ cfg x b. (c.in-Some.ensures.goes_on (reading_cues cfg) x.read b.follower).sound

pub returns-in-Err-clause-err : goal.returns-in-Err-clause-err
returns-in-Err-clause-err g c = λ start ps cfg x h b. c.in-Err.ensures.err start ps cfg x h (record { stands = b; part = c.in-Some.ensures.goes_on (reading_cues cfg) x.read b.follower })
