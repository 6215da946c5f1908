use Rattle.run_events.proofs.SettlingLemmas.{settled_one_more}
use Rattle.run_events.proofs.tracker.tell_counted.Goals as goal

pub loop-number-init : goal.loop-number-init
loop-number-init g c = g.met.W.Watch.hears_refl c.args.watch.now

pub loop-number-preserved : goal.loop-number-preserved
loop-number-preserved g c = settled_one_more g.W.Watch.hears g.met.W.Watch.hears_trans c.args.site _ _ _ c.args.counted c.args.gone.now c.loop-number.number _ _
    c.loop-number.invariant c.tell.ensures.heard c.nth_counted.ensures c.told.ensures
