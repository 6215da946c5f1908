use Rattle.run_events.proofs.TellingLemmas.{tells_as}
use Rattle.run_events.proofs.SettlingLemmas.{settlement_told}
use Rattle.run_events.proofs.tracker.Tracker.settle.Goals as goal

pub returns-clause-told : goal.returns-clause-told
returns-clause-told g c = tells_as g.W.Watch.hears c.args.site _ _ _ _ _ _ _ _
    c.saturating_sub-played.ensures c.saturating_sub-not_fitted.ensures c.saturating_sub-unconditioned.ensures
    (settlement_told g.W.Watch.hears g.met.W.Watch.hears_trans c.args.site _ _ _ _ c.args.gone.now _ _ _
    c.tell_counted.ensures c.tell_counted-2.ensures c.tell_counted-3.ensures)
