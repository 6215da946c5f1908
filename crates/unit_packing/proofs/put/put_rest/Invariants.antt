use Rattle.std.proofs.Common.{◌≡◌, ℕ, ◌-◌, ◌≤◌, List, ◌++◌, Option, length, drop}
use Rattle.ts_packet.specs.Transfers.{WentWell}
use Rattle.ts_packet.specs.Numbering.{Step, Counts}
use Rattle.unit_stream.specs.UnitPackets.{put_in}
use Rattle.unit_packing.specs.Packing.{rest_unit_packets}
use Rattle.unit_packing.specs.Putting.{next_number}
use Rattle.unit_packing.proofs.put.put_rest.Given as goal

-- some of the packets are put and counted, and those of the bytes from here on are left
abbrev pub invariant-loop-at : goal.invariant-loop-at
invariant-loop-at g l = record {
  leads : g.S.PacketSink.leads l.initial.sink l.sink;
  well : WentWell (g.S.PacketSink.counts l.initial.sink) (g.S.PacketSink.counts l.sink);
  within : l.at ≤ length l.bytes;
  put : (put : List (List ℕ))
      × ((steps : List Step) → Counts l.initial.counter steps →
      (rest_unit_packets l.pid (next_number steps) l.bytes ≡ put ++ rest_unit_packets l.pid (next_number (put_in put steps)) (drop l.at l.bytes)) × Counts l.counter (put_in put steps))
      × ((start : Option (List ℕ)) (ps : List (List ℕ)) → g.S.PacketSink.holds l.initial.sink start ps → g.S.PacketSink.holds l.sink start (ps ++ put));
}

abbrev pub decreases-loop-at : goal.decreases-loop-at
decreases-loop-at g l = length l.bytes - l.at
