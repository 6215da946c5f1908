use Rattle.std.proofs.Common.{◌∙◌}
use Rattle.run_events.proofs.TellingLemmas.{tells_quietly}
use Rattle.run_events.proofs.tracker.Tracker.turn_all.Goals as goal

pub loop-place-preserved : goal.loop-place-preserved
loop-place-preserved g c = record {
  settled = c.await_point-in-loop-place.ensures ∙ c.await_point.ensures ∙ c.loop-place.invariant.settled;
  told = tells_quietly g.W.Watch.hears g.met.W.Watch.hears_trans c.args.site _ _ _ c.loop-place.invariant.told c.turn-missed.ensures;
}
