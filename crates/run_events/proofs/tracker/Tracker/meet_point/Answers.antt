use Rattle.run_events.proofs.TellingLemmas.{tells_quietly}
use Rattle.run_events.proofs.tracker.Tracker.meet_point.Goals as goal
use Rattle.run_events.proofs.tracker.Tracker.meet_point.Goals.{in-Some, in_default}

pub loop-awaited-preserved : goal.loop-awaited-preserved
loop-awaited-preserved g c =
    elim c.match-awaited.branch [
      | in-Some w ↦ rw w.watch-is (tells_quietly g.W.Watch.hears g.met.W.Watch.hears_trans c.args.site _ _ _ c.loop-awaited.invariant w.tell.ensures.told)
      | in_default w ↦ rw w.watch-is c.loop-awaited.invariant
    ]
