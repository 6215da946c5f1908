use Rattle.run_events.proofs.TellingLemmas.{tells_quietly, tells_after}
use Rattle.run_events.proofs.tracker.Tracker.align.Goals as goal
use Rattle.run_events.proofs.tracker.Tracker.align.Goals.{in-Some, in_default}

pub loop-one-preserved : goal.loop-one-preserved
loop-one-preserved g c =
    elim c.match-get.branch [
      | in-Some w ↦ rw w.watch-is (tells_quietly g.W.Watch.hears g.met.W.Watch.hears_trans c.args.site _ _ _ c.loop-one.invariant w.changed.ensures.told)
      | in_default w ↦ rw w.watch-is c.loop-one.invariant
    ]

pub loop-place-preserved : goal.loop-place-preserved
loop-place-preserved g c = tells_quietly g.W.Watch.hears g.met.W.Watch.hears_trans c.args.site _ _ _ c.loop-place.invariant c.armed.ensures.told

pub returns-clause-told : goal.returns-clause-told
returns-clause-told g c = tells_after g.W.Watch.hears g.met.W.Watch.hears_trans c.args.site _ _ _ _ _ _ c.loop-place.invariant c.settle.ensures.told
