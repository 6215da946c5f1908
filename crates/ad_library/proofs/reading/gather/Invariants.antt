use Rattle.std.proofs.Common.{◌≡◌, ◌-◌, ◌^◌, false}
use Rattle.ts_packet.specs.Sources.{ReadOn}
use Rattle.ad_library.proofs.ReadLemmas.{HasTaken}
use Rattle.ad_library.proofs.reading.gather.Given as goal

abbrev pub invariant-loop-gathering : goal.invariant-loop-gathering
invariant-loop-gathering g l = record {
  whole : g.P.PacketSource.is_broken l.source ≡ false;
  reads : g.P.PacketSource.leads l.initial.source l.source;
  well : ReadOn (g.P.PacketSource.has_ended l.initial.source) (g.P.PacketSource.has_ended l.source) (g.P.PacketSource.counts l.initial.source) (g.P.PacketSource.counts l.source);
  taken : HasTaken (g.P.PacketSource.left l.initial.source) (g.P.PacketSource.left l.source) (g.P.PacketSource.given l.initial.source) (g.P.PacketSource.given l.source) l.gathering;
}

abbrev pub decreases-loop-gathering : goal.decreases-loop-gathering
decreases-loop-gathering g l = 2 ^ 64 - g.P.PacketSource.given l.source
