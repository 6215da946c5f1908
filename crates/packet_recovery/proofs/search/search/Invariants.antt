use Rattle.std.proofs.Common.{take}
use Rattle.std.specs.Io.KnownBytes.{prepend_known}
use Rattle.packet_recovery.proofs.SearchLemmas.{Hunt}
use Rattle.packet_recovery.proofs.search.search.Given as goal

abbrev pub invariant-loop-call : goal.invariant-loop-call
invariant-loop-call g l =
    Hunt (prepend_known (take 188 l.fn.window) (g.S.Source.remaining l.fn.source)) (g.S.Source.remaining l.source) l.window l.held l.loose l.turns l._call l.fn.skipped l.skipped
    (g.S.Source.counts l.fn.source) (g.S.Source.counts l.source)
