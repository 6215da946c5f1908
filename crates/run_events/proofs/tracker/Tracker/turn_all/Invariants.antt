use Rattle.std.proofs.Common.{◌≡◌}
use Rattle.run_events.specs.Telling.{Tells}
use Rattle.run_events.proofs.tracker.Tracker.turn_all.Given as goal

-- no line so far says what became of a break, and none was counted
abbrev pub invariant-loop-place : goal.invariant-loop-place
invariant-loop-place g l = record {
  settled : l.self.settled ≡ l.fn.self.settled;
  told : Tells g.W.Watch.hears l.site l.fn.watch 0 0 0 l.watch;
}
