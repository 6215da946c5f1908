use Rattle.std.proofs.Common.{◌≡◌, ◌+◌, ◌≤◌, ◌<◌, length, take}
use Rattle.std.specs.Io.KnownBytes.{Consumes}
use Rattle.ts_packet.specs.Transfers.{Rose, WentWell}
use Rattle.ts_packet.proofs.transfer.fill_in_turns.Given as goal

abbrev pub invariant-loop-turn : goal.invariant-loop-turn
invariant-loop-turn g l = record {
  same : length l.buf ≡ length l.initial.buf;
  within : l.at < length l.buf;
  bytes : Consumes (g.S.Source.remaining l.initial.source) (g.S.Source.remaining l.source) (take l.at l.buf);
  turns : Rose l._turn (g.S.Source.counts l.initial.source).calls (g.S.Source.counts l.source).calls;
  few : (g.S.Source.counts l.source).calls ≤ (g.S.Source.counts l.initial.source).calls + l._turn;
  well : WentWell (g.S.Source.counts l.initial.source) (g.S.Source.counts l.source);
}
