use Rattle.run_events.specs.Telling.{Tells}
use Rattle.run_events.proofs.TellingLemmas.{tells_nothing, tells_quietly}
use Rattle.run_events.proofs.cue_tracker.tell_new.Goals as goal
use Rattle.run_events.proofs.cue_tracker.tell_new.Goals.{then-is_none+then-not-event, else-is_none, then-event-before+then-not-event-2, else-event-before}

pub returns-else-event : goal.returns-else-event
returns-else-event g c =
    let hears = g.W.Watch.hears in
    let trans = g.met.W.Watch.hears_trans in
    let site = c.args.site in
    let first : Tells hears site c.args.watch.now 0 0 0 c.if-is_none.watch =
    elim c.if-is_none.branch [
      | then-is_none+then-not-event w ↦ rw w.watch-is w.tell.ensures.told
      | else-is_none w ↦ rw w.watch-is (tells_nothing hears site _ (g.met.W.Watch.hears_refl _))
    ] in
    elim c.if-event-before.branch [
      | then-event-before+then-not-event-2 w ↦ rw w.watch-is (tells_quietly hears trans site _ _ _ first w.tell-then-not-event-2.ensures.told)
      | else-event-before w ↦ rw w.watch-is first
    ]
