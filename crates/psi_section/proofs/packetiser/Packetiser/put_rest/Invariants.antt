use Rattle.std.proofs.Common.{◌≡◌, ℕ, ◌+◌, ◌-◌, ◌%◌, ◌≤◌, List, ◌++◌, Option, length, drop}
use Rattle.ts_packet.specs.Transfers.{WentWell}
use Rattle.psi_section.specs.Packetising.{rest_packets}
use Rattle.psi_section.proofs.packetiser.Packetiser.put_rest.Given as goal

-- some of the packets are put, and those of the bytes from here on are left
abbrev pub invariant-loop-at : goal.invariant-loop-at
invariant-loop-at g l = record {
  leads : g.S.PacketSink.leads l.initial.sink l.sink;
  well : WentWell (g.S.PacketSink.counts l.initial.sink) (g.S.PacketSink.counts l.sink);
  within : l.at ≤ length l.bytes;
  same_pid : l.self.pid ≡ l.initial.self.pid;
  put : (put : List (List ℕ))
      × (rest_packets l.initial.self.pid l.initial.self.counter l.bytes ≡ put ++ rest_packets l.initial.self.pid l.self.counter (drop l.at l.bytes))
      × (l.self.counter ≡ (l.initial.self.counter + length put) % 16)
      × ((start : Option (List ℕ)) (ps : List (List ℕ)) → g.S.PacketSink.holds l.initial.sink start ps → g.S.PacketSink.holds l.sink start (ps ++ put));
}

abbrev pub decreases-loop-at : goal.decreases-loop-at
decreases-loop-at g l = length l.bytes - l.at
