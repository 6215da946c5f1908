use Rattle.std.proofs.Common.{◌∷◌, ◌++◌, [], reverse}
use Rattle.follow_speed.specs.declared.RunFault.TheVariants.{Read, Follow}
use Rattle.follow_speed.specs.Runs.{HasNoFault, Stops}
use Rattle.program_follower.specs.Purposes.{reading_advertisement}
use Rattle.follow_speed.proofs.FollowLemmas.{goes_on, ends, read_stops, follow_stops}
use Rattle.follow_speed.proofs.follow.Goals as goal

pub loop-follower-preserved : goal.loop-follower-preserved
loop-follower-preserved g c =
    let (ps, h) = c.loop-follower.invariant.followed in
    let p = c.read_into.new.packet in
    let r = rw c.in-Ok-true.field-0-test at c.in-Ok-true.ensures.ok in
    let n = rw c.in-Ok-true.field-0-test at c.in-Ok-true.ensures.given in
    record {
      whole = n.1;
      followed = (ps ++ p ∷ [], goes_on _ _ c.loop-follower.follower ps h _ c.feed.new.self p r (c.in-Ok.ensures.sound reading_advertisement (reverse ps) h.follows) (c.in-Ok.ensures.stands reading_advertisement (reverse ps) h.follows));
    }

pub returns-in-Err-feed-clause-err : goal.returns-in-Err-feed-clause-err
returns-in-Err-feed-clause-err g c =
    let (ps, h) = c.loop-follower.invariant.followed in
    let p = c.read_into.new.packet in
    let r = rw c.in-Ok-true.field-0-test at c.in-Ok-true.ensures.ok in
    let done : Stops (Follow c.in-Err-feed.fault) (g.S.Source.remaining c.args.network.now) =
    rw (← c.new-reader.ensures.source) (follow_stops _ _ c.loop-follower.follower ps h _ p r c.in-Err-feed.fault (c.in-Err-feed.ensures.err reading_advertisement (reverse ps) h.follows)) in
    done

pub returns-in-Ok-false-clause-ok : goal.returns-in-Ok-false-clause-ok
returns-in-Ok-false-clause-ok g c =
    let (ps, h) = c.loop-follower.invariant.followed in
    let r = rw c.in-Ok-false.field-0-test at c.in-Ok-false.ensures.ok in
    let done : HasNoFault (g.S.Source.remaining c.args.network.now) =
    rw (← c.new-reader.ensures.source) (ends _ _ c.loop-follower.follower ps h r.0) in
    done

pub returns-in-Err-clause-err : goal.returns-in-Err-clause-err
returns-in-Err-clause-err g c =
    let (ps, h) = c.loop-follower.invariant.followed in
    let done : Stops (Read c.in-Err.fault) (g.S.Source.remaining c.args.network.now) =
    rw (← c.new-reader.ensures.source) (read_stops _ _ c.loop-follower.follower ps h c.loop-follower.reader.is_broken c.loop-follower.invariant.whole c.in-Err.fault c.in-Err.ensures.err) in
    done
