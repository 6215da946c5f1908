use Rattle.run_events.specs.Telling.{Tells}
use Rattle.run_events.proofs.cue_tracker.CueTracker.look.Given as goal

-- no line so far says what became of a break
abbrev pub invariant-loop-place : goal.invariant-loop-place
invariant-loop-place g l = Tells g.W.Watch.hears l.site l.fn.watch 0 0 0 l.watch
