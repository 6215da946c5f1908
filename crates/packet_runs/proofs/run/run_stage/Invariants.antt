use Rattle.std.proofs.Common.{◌≡◌, ◌-◌, ◌^◌, ◌++◌, [], List, ℕ, Option, false}
use Rattle.ts_packet.specs.Transfers.{WentWell}
use Rattle.ts_packet.specs.Sources.{HasGiven, ReadOn}
use Rattle.packet_runs.proofs.RunLemmas.{HasGone}
use Rattle.packet_runs.proofs.run.run_stage.Given as goal

abbrev pub invariant-loop-fault : goal.invariant-loop-fault
invariant-loop-fault g l = record {
  whole : g.P.PacketSource.is_broken l.network ≡ false;
  reads : g.P.PacketSource.leads l.initial.network l.network;
  leads : g.K.PacketSink.leads l.initial.out l.out;
  stays : g.S.Stage.leads l.initial.stage l.stage;
  well : ReadOn (g.P.PacketSource.has_ended l.initial.network) (g.P.PacketSource.has_ended l.network) (g.P.PacketSource.counts l.initial.network) (g.P.PacketSource.counts l.network);
  wrote : WentWell (g.K.PacketSink.counts l.initial.out) (g.K.PacketSink.counts l.out);
  passed : (ps : List (List ℕ)) × HasGiven (g.P.PacketSource.left l.initial.network) (g.P.PacketSource.left l.network) (g.P.PacketSource.given l.initial.network) (g.P.PacketSource.given l.network) ps
      × ((start : Option (List ℕ)) (before : List (List ℕ)) → ((kept : List ℕ) → g.S.Stage.sends l.initial.stage [] [] kept l.initial.stage) → g.K.PacketSink.holds l.initial.out start before
      → HasGone g.S.Stage.refusal g.S.Stage.sends l.initial.stage ps l.slots.kept.now l.stage (λ qs. g.K.PacketSink.holds l.out start (before ++ qs)));
}

abbrev pub decreases-loop-fault : goal.decreases-loop-fault
decreases-loop-fault g l = 2 ^ 64 - g.P.PacketSource.given l.network
