use Rattle.run_events.proofs.TellingLemmas.{tells_one}
use Rattle.run_events.proofs.watch.Site.tell.Goals as goal

pub returns-clause-told : goal.returns-clause-told
returns-clause-told g c = tells_one g.W.Watch.hears c.args.self _ _ c.args.what c.tell.ensures
