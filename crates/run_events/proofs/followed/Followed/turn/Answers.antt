use Rattle.run_events.specs.Telling.{Tells}
use Rattle.run_events.proofs.TellingLemmas.{tells_nothing, tells_quietly}
use Rattle.run_events.proofs.followed.Followed.turn.Goals as goal
use Rattle.run_events.proofs.followed.Followed.turn.Goals.{then-ne, else-ne+then-ne-2, else-ne+else-ne-2, then-ne-3+then-eq, else-ne-3, then-ne-4, else-ne-4}

pub returns : goal.returns
returns g c =
    let hears = g.W.Watch.hears in
    let trans = g.met.W.Watch.hears_trans in
    let site = c.args.site in
    let none : Tells hears site c.args.watch.now 0 0 0 c.args.watch.now = tells_nothing hears site _ (g.met.W.Watch.hears_refl _) in
    let first : Tells hears site c.args.watch.now 0 0 0 c.if-ne.watch =
    elim c.if-ne.branch [
      | then-ne w ↦ rw w.watch-is (tells_quietly hears trans site _ _ _ w.cross_start.ensures w.cross_end.ensures)
      | else-ne+then-ne-2 w ↦ rw w.watch-is (tells_quietly hears trans site _ _ _ w.tell.ensures.told w.tell_edge.ensures)
      | else-ne+else-ne-2 w ↦ rw w.watch-is none
    ] in
    let second : Tells hears site c.args.watch.now 0 0 0 c.if-ne-3.watch =
    elim c.if-ne-3.branch [
      | then-ne-3+then-eq w ↦ rw w.watch-is (tells_quietly hears trans site _ _ _ first w.tell-then-eq.ensures.told)
      | else-ne-3 w ↦ rw w.watch-is first
    ] in
    elim c.if-ne-4.branch [
      | then-ne-4 w ↦ rw w.watch-is (tells_quietly hears trans site _ _ _ second w.pass_end.ensures)
      | else-ne-4 w ↦ rw w.watch-is second
    ]
