use Rattle.std.proofs.Common.{◌-◌, ◌∙◌, sym}
use Rattle.run_events.specs.Telling.{Tells}
use Rattle.run_events.proofs.TellingLemmas.{tells_quietly, tells_before}
use Rattle.run_events.proofs.ReportLemmas.{settled_so, settled_none}
use Rattle.run_events.proofs.tracker.Tracker.look_closely.Goals as goal
use Rattle.run_events.proofs.tracker.Tracker.look_closely.Goals.{then-taken, else-taken+else-not-is_aligned}

pub returns : goal.returns
returns g c =
    let hears = g.W.Watch.hears in
    let trans = g.met.W.Watch.hears_trans in
    let site = c.args.site in
    let old = c.args.self.now.settled in
    let is = c.if-taken.self.settled in
    let first : Tells hears site c.args.watch.now (is.played - old.played) (is.not_fitted - old.not_fitted) (is.unconditioned - old.unconditioned) c.if-taken.watch =
    elim c.if-taken.branch [
      | then-taken w ↦ rw (w.self-is, w.watch-is) (settled_so hears site _ _ old _ _ w.align.ensures.settled w.align.ensures.told)
      | else-taken+else-not-is_aligned w ↦ rw (w.self-is, w.watch-is) (settled_none hears site _ old (g.met.W.Watch.hears_refl _))
    ] in
    settled_so hears site _ _ old _ _ (c.meet_point.ensures.settled ∙ c.turn_all.ensures.settled)
    (tells_before hears trans site _ _ _ _ _ _ first (tells_quietly hears trans site _ _ _ c.turn_all.ensures.told c.meet_point.ensures.told))
