use Rattle.std.proofs.Common.{sym}
use Rattle.injector.specs.Steps.{packets_in}
use Rattle.injector.specs.Injecting.{IsFollowed, IsStill}
use Rattle.injector.proofs.injector.Injector.take.Goals as goal
use Rattle.program_follower.specs.Purposes.{writing_cues}

pub returns-in-Ok-put-clause-ok : goal.returns-in-Ok-put-clause-ok
returns-in-Ok-put-clause-ok g c = λ start ps cfg past held b.
    let p = c.args.packet.now in
    let ps_in = packets_in past in
    let sound = c.in-Ok.ensures.sound (writing_cues cfg) ps_in b.follower in
    let fed : IsFollowed (record c.args.self.now { follower = c.feed.new.self }) c.is_map.result cfg p past =
    record {
      judges = record { requests = b.judges.requests; counted = b.judges.counted };
      notes = b.notes;
      news = b.news;
      rest = b.rest;
      body = record {
        cue_pid = b.cue_pid;
        follower = c.in-Ok.ensures.stands (writing_cues cfg) ps_in b.follower;
        shows = c.in-Ok.ensures.shows (writing_cues cfg) ps_in b.follower;
        sound = sound;
        map = c.is_map.ensures (writing_cues cfg) p ps_in (c.in-Ok.ensures.place (writing_cues cfg) ps_in b.follower);
      };
      out = b.out;
      whole = b.whole;
    } in
    c.in-Ok-put.ensures.ok start ps cfg past held fed

pub returns-in-Ok-put-clause-stands : goal.returns-in-Ok-put-clause-stands
returns-in-Ok-put-clause-stands g c = λ cfg past b.
    let p = c.args.packet.now in
    let ps_in = packets_in past in
    let sound = c.in-Ok.ensures.sound (writing_cues cfg) ps_in b.follower in
    let fed : IsFollowed (record c.args.self.now { follower = c.feed.new.self }) c.is_map.result cfg p past =
    record {
      judges = record { requests = b.judges.requests; counted = b.judges.counted };
      notes = b.notes;
      news = b.news;
      rest = b.rest;
      body = record {
        cue_pid = b.cue_pid;
        follower = c.in-Ok.ensures.stands (writing_cues cfg) ps_in b.follower;
        shows = c.in-Ok.ensures.shows (writing_cues cfg) ps_in b.follower;
        sound = sound;
        map = c.is_map.ensures (writing_cues cfg) p ps_in (c.in-Ok.ensures.place (writing_cues cfg) ps_in b.follower);
      };
      out = b.out;
      whole = b.whole;
    } in
    c.in-Ok-put.ensures.stands cfg past fed

pub returns-in-Ok-put-clause-sound : goal.returns-in-Ok-put-clause-sound
returns-in-Ok-put-clause-sound g c = λ cfg past b. c.in-Ok.ensures.sound (writing_cues cfg) (packets_in past) b.follower

pub returns-in-Err-put-clause-err : goal.returns-in-Err-put-clause-err
returns-in-Err-put-clause-err g c = λ start ps cfg past held b.
    let p = c.args.packet.now in
    let ps_in = packets_in past in
    let sound = c.in-Ok.ensures.sound (writing_cues cfg) ps_in b.follower in
    let fed : IsFollowed (record c.args.self.now { follower = c.feed.new.self }) c.is_map.result cfg p past =
    record {
      judges = record { requests = b.judges.requests; counted = b.judges.counted };
      notes = b.notes;
      news = b.news;
      rest = b.rest;
      body = record {
        cue_pid = b.cue_pid;
        follower = c.in-Ok.ensures.stands (writing_cues cfg) ps_in b.follower;
        shows = c.in-Ok.ensures.shows (writing_cues cfg) ps_in b.follower;
        sound = sound;
        map = c.is_map.ensures (writing_cues cfg) p ps_in (c.in-Ok.ensures.place (writing_cues cfg) ps_in b.follower);
      };
      out = b.out;
      whole = b.whole;
    } in
    c.in-Err-put.ensures.err start ps cfg past held fed

pub returns-in-Ok-put-clause-found : goal.returns-in-Ok-put-clause-found
returns-in-Ok-put-clause-found g c = λ cfg past b. sym (c.in-Ok.ensures.sound (writing_cues cfg) (packets_in past) b.follower)

pub returns-in-Err-put-clause-found : goal.returns-in-Err-put-clause-found
returns-in-Err-put-clause-found g c = λ cfg past b. sym (c.in-Ok.ensures.sound (writing_cues cfg) (packets_in past) b.follower)

pub returns-in-Err-clause-err : goal.returns-in-Err-clause-err
returns-in-Err-clause-err g c = λ start ps cfg past held b. c.in-Err.ensures.err (writing_cues cfg) (packets_in past) b.follower

pub returns-in-Err-clause-found : goal.returns-in-Err-clause-found
returns-in-Err-clause-found g c = λ cfg past b. sym (c.in-Err.ensures.err (writing_cues cfg) (packets_in past) b.follower)

pub returns-in-Ok-put_still-clause-ok : goal.returns-in-Ok-put_still-clause-ok
returns-in-Ok-put_still-clause-ok g c = λ start ps cfg past held b.
    let p = c.args.packet.now in
    let ps_in = packets_in past in
    let sound = c.in-Ok.ensures.sound (writing_cues cfg) ps_in b.follower in
    let place = c.in-Ok.ensures.place (writing_cues cfg) ps_in b.follower in
    let still : IsStill (record c.args.self.now { follower = c.feed.new.self }) cfg p past =
    record {
      followed = record {
        judges = record { requests = b.judges.requests; counted = b.judges.counted };
        notes = b.notes;
        news = b.news;
        rest = b.rest;
        body = record {
          cue_pid = b.cue_pid;
          follower = c.in-Ok.ensures.stands (writing_cues cfg) ps_in b.follower;
          shows = c.in-Ok.ensures.shows (writing_cues cfg) ps_in b.follower;
          sound = sound;
          map = sym (c.may_be_due.ensures.elsewhere (writing_cues cfg) p ps_in place c.if-may_be_due.false);
        };
        out = b.out;
        whole = b.whole;
      };
      quiet = c.may_be_due.ensures.quiet c.if-may_be_due.false;
      high = c.may_be_due.ensures.still (writing_cues cfg) p ps_in place c.if-may_be_due.false;
    } in
    c.in-Ok-put_still.ensures.ok start ps cfg past held still

pub returns-in-Ok-put_still-clause-stands : goal.returns-in-Ok-put_still-clause-stands
returns-in-Ok-put_still-clause-stands g c = λ cfg past b.
    let p = c.args.packet.now in
    let ps_in = packets_in past in
    let sound = c.in-Ok.ensures.sound (writing_cues cfg) ps_in b.follower in
    let place = c.in-Ok.ensures.place (writing_cues cfg) ps_in b.follower in
    let still : IsStill (record c.args.self.now { follower = c.feed.new.self }) cfg p past =
    record {
      followed = record {
        judges = record { requests = b.judges.requests; counted = b.judges.counted };
        notes = b.notes;
        news = b.news;
        rest = b.rest;
        body = record {
          cue_pid = b.cue_pid;
          follower = c.in-Ok.ensures.stands (writing_cues cfg) ps_in b.follower;
          shows = c.in-Ok.ensures.shows (writing_cues cfg) ps_in b.follower;
          sound = sound;
          map = sym (c.may_be_due.ensures.elsewhere (writing_cues cfg) p ps_in place c.if-may_be_due.false);
        };
        out = b.out;
        whole = b.whole;
      };
      quiet = c.may_be_due.ensures.quiet c.if-may_be_due.false;
      high = c.may_be_due.ensures.still (writing_cues cfg) p ps_in place c.if-may_be_due.false;
    } in
    c.in-Ok-put_still.ensures.stands cfg past still

pub returns-in-Ok-put_still-clause-sound : goal.returns-in-Ok-put_still-clause-sound
returns-in-Ok-put_still-clause-sound g c = λ cfg past b. c.in-Ok.ensures.sound (writing_cues cfg) (packets_in past) b.follower

pub returns-in-Err-put_still-clause-err : goal.returns-in-Err-put_still-clause-err
returns-in-Err-put_still-clause-err g c = λ start ps cfg past held b.
    let p = c.args.packet.now in
    let ps_in = packets_in past in
    let sound = c.in-Ok.ensures.sound (writing_cues cfg) ps_in b.follower in
    let place = c.in-Ok.ensures.place (writing_cues cfg) ps_in b.follower in
    let still : IsStill (record c.args.self.now { follower = c.feed.new.self }) cfg p past =
    record {
      followed = record {
        judges = record { requests = b.judges.requests; counted = b.judges.counted };
        notes = b.notes;
        news = b.news;
        rest = b.rest;
        body = record {
          cue_pid = b.cue_pid;
          follower = c.in-Ok.ensures.stands (writing_cues cfg) ps_in b.follower;
          shows = c.in-Ok.ensures.shows (writing_cues cfg) ps_in b.follower;
          sound = sound;
          map = sym (c.may_be_due.ensures.elsewhere (writing_cues cfg) p ps_in place c.if-may_be_due.false);
        };
        out = b.out;
        whole = b.whole;
      };
      quiet = c.may_be_due.ensures.quiet c.if-may_be_due.false;
      high = c.may_be_due.ensures.still (writing_cues cfg) p ps_in place c.if-may_be_due.false;
    } in
    c.in-Err-put_still.ensures.err start ps cfg past held still

pub returns-in-Ok-put_still-clause-found : goal.returns-in-Ok-put_still-clause-found
returns-in-Ok-put_still-clause-found g c = λ cfg past b. sym (c.in-Ok.ensures.sound (writing_cues cfg) (packets_in past) b.follower)

pub returns-in-Err-put_still-clause-found : goal.returns-in-Err-put_still-clause-found
returns-in-Err-put_still-clause-found g c = λ cfg past b. sym (c.in-Ok.ensures.sound (writing_cues cfg) (packets_in past) b.follower)
