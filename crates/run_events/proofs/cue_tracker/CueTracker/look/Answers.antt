use Rattle.run_events.proofs.TellingLemmas.{tells_quietly}
use Rattle.run_events.proofs.cue_tracker.CueTracker.look.Goals as goal

pub loop-place-preserved : goal.loop-place-preserved
loop-place-preserved g c = tells_quietly g.W.Watch.hears g.met.W.Watch.hears_trans c.args.site _ _ _ c.loop-place.invariant c.tell_new.ensures
