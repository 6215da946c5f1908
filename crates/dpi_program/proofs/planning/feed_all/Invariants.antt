use Rattle.std.proofs.Common.{◌≡◌, ℕ, [], false}
use Rattle.break_timelines.specs.Standing.{ReaderStandsFor}
use Rattle.dpi_program.proofs.PlanningLemmas.{FedUpTo}
use Rattle.dpi_program.proofs.planning.feed_all.Given as goal

abbrev pub invariant-loop-number : goal.invariant-loop-number
invariant-loop-number g l = record {
  whole : l.packets.is_broken ≡ false;
  fed : (program : ℕ) → ReaderStandsFor l.initial.timeline program []
      → FedUpTo l.timeline program l.number (g.S.Source.remaining l.initial.packets.source.now) (g.S.Source.remaining l.packets.source.now);
}
