use Rattle.ts_packet.specs.Transfers.{WentWell}
use Rattle.library_speed.proofs.put_stream.Given as goal

-- all puts so far went well
abbrev pub invariant-loop : goal.invariant-loop
invariant-loop g l = record {
  leads : g.S.PacketSink.leads l.initial.sink l.sink;
  well : WentWell (g.S.PacketSink.counts l.initial.sink) (g.S.PacketSink.counts l.sink);
}
