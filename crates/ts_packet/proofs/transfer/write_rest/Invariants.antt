use Rattle.std.proofs.Common.{◌+◌, ◌≤◌, ◌<◌, length, take}
use Rattle.std.specs.Io.KnownBytes.{Appends}
use Rattle.ts_packet.specs.Transfers.{Rose, WentWell}
use Rattle.ts_packet.proofs.transfer.write_rest.Given as goal

abbrev pub invariant-loop-turn : goal.invariant-loop-turn
invariant-loop-turn g l = record {
  within : l.at < length l.bytes;
  bytes : Appends (g.W.Target.contents l.initial.target) (g.W.Target.contents l.target) (take l.at l.bytes);
  turns : Rose l._turn (g.W.Target.counts l.initial.target).calls (g.W.Target.counts l.target).calls;
  few : (g.W.Target.counts l.target).calls ≤ (g.W.Target.counts l.initial.target).calls + l._turn;
  well : WentWell (g.W.Target.counts l.initial.target) (g.W.Target.counts l.target);
}
