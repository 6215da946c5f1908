use Rattle.run_events.specs.Telling.{Tells}
use Rattle.run_events.proofs.TellingLemmas.{tells_nothing, tells_quietly}
use Rattle.run_events.proofs.tracker.changed.Goals as goal
use Rattle.run_events.proofs.tracker.changed.Goals.{then-event-one, else-event-one, then-event+then-not-one, else-event}

pub returns-clause-told : goal.returns-clause-told
returns-clause-told g c =
    let hears = g.W.Watch.hears in
    let trans = g.met.W.Watch.hears_trans in
    let site = c.args.site in
    let first : Tells hears site c.args.watch.now 0 0 0 c.if-event-one.watch =
    elim c.if-event-one.branch [
      | then-event-one w ↦ rw w.watch-is (tells_quietly hears trans site _ _ _ w.tell.ensures.told w.tell-then-event-one.ensures.told)
      | else-event-one w ↦ rw w.watch-is (tells_nothing hears site _ (g.met.W.Watch.hears_refl _))
    ] in
    elim c.if-event.branch [
      | then-event+then-not-one w ↦ rw w.watch-is
          (tells_quietly hears trans site _ _ _ first (tells_quietly hears trans site _ _ _ w.tell-then-not-one.ensures.told w.tell-then-not-one-2.ensures.told))
      | else-event w ↦ rw w.watch-is first
    ]
