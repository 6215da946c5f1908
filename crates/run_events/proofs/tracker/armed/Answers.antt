use Rattle.run_events.proofs.TellingLemmas.{tells_quietly}
use Rattle.run_events.proofs.tracker.armed.Goals as goal

pub returns-clause-told : goal.returns-clause-told
returns-clause-told g c = tells_quietly g.W.Watch.hears g.met.W.Watch.hears_trans c.args.site _ _ _ c.tell.ensures.told c.changed.ensures.told
