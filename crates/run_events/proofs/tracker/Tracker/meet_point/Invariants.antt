use Rattle.run_events.specs.Telling.{Tells}
use Rattle.run_events.proofs.tracker.Tracker.meet_point.Given as goal

-- no line so far says what became of a break
abbrev pub invariant-loop-awaited : goal.invariant-loop-awaited
invariant-loop-awaited g l = Tells g.W.Watch.hears l.site l.fn.watch 0 0 0 l.watch
