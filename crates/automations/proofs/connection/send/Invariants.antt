-- What is gone from `rest` was written, and no write failed.
use Rattle.std.proofs.Common.{◌≡◌, ℕ, List, ◌++◌}
use Rattle.std.specs.Io.KnownBytes.{Appends}
use Rattle.ts_packet.specs.Transfers.{Rose}
use Rattle.automations.proofs.connection.send.Given as goal

abbrev pub invariant-loop-turn : goal.invariant-loop-turn
invariant-loop-turn g l = record {
  sent : (done : List ℕ) × (l.initial.rest ≡ done ++ l.rest) × Appends (g.W.Write.contents l.initial.stream.writer) (g.W.Write.contents l.stream.writer) done;
  writes : Rose l._turn l.initial.stream.counts.writes l.stream.counts.writes;
  failed : l.stream.counts.failed ≡ l.initial.stream.counts.failed;
}
