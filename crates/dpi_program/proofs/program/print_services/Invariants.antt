use Rattle.std.proofs.Common.{ℕ, List, Option, length}
use Rattle.std.specs.Io.KnownBytes.{Appends}
use Rattle.dpi_program.specs.Commands.{services_lines}
use Rattle.dpi_program.proofs.program.print_services.Given as goal

-- behind what was printed come the lines of the rest
abbrev pub invariant-loop-events : goal.invariant-loop-events
invariant-loop-events g l = record {
  printed : (after : Option (List ℕ)) → Appends (g.W.Write.contents l.printed) after (services_lines l.rest)
      → Appends (g.W.Write.contents l.initial.printed) after (services_lines l.services);
}

abbrev pub decreases-loop-events : goal.decreases-loop-events
decreases-loop-events g l = length l.rest
