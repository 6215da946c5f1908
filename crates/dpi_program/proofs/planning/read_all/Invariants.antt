use Rattle.std.specs.Io.KnownBytes.{Consumes}
use Rattle.dpi_program.proofs.planning.read_all.Given as goal

abbrev pub invariant-loop-turn : goal.invariant-loop-turn
invariant-loop-turn g l = record {
  read : Consumes (g.S.Source.remaining l.initial.source) (g.S.Source.remaining l.source) l.bytes.items;
}
