use Rattle.std.proofs.Common.{map}
use Rattle.run_events.specs.Telling.{at}
use Rattle.run_events.specs.Settling.{settled_lines}
use Rattle.run_events.proofs.tracker.tell_counted.Given as goal

-- so many lines are told
abbrev pub invariant-loop-number : goal.invariant-loop-number
invariant-loop-number g l = g.W.Watch.hears l.fn.watch (map (at l.site) (settled_lines l.counted l.gone l.number)) l.watch
