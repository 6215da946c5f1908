use Rattle.std.proofs.Common.{◌-◌, ◌^◌, ◌++◌, [], List, ℕ, Option, reverse}
use Rattle.ts_packet.specs.Sources.{HasGiven}
use Rattle.cued_laws.specs.Laws.{ArePacketsOfBytes}
use Rattle.program_follower.specs.declared.purpose.Purpose.{Purpose}
use Rattle.packet_runs.proofs.RunLemmas.{HasGone}
use Rattle.on_air.specs.Plain.{IsPlain}
use Rattle.on_air.proofs.AirLemmas.{SoundAir}
use Rattle.on_air.proofs.running.run_air.Given as goal

-- these packets were read and passed on, and none of them is at fault
abbrev pub invariant-loop-fault : goal.invariant-loop-fault
invariant-loop-fault g l = (ps : List (List ℕ)) × HasGiven (g.P.PacketSource.left l.initial.network) (g.P.PacketSource.left l.network) (g.P.PacketSource.given l.initial.network) (g.P.PacketSource.given l.network) ps
    × g.S.Stage.leads l.initial.stage l.stage
    × ArePacketsOfBytes (reverse ps)
    × g.P.PacketSource.leads l.initial.network l.network
    × g.K.PacketSink.leads l.initial.out l.out
    × IsPlain l.air ps
    × ((start : Option (List ℕ)) (before : List (List ℕ)) → ((kept : List ℕ) → g.S.Stage.sends l.initial.stage [] [] kept l.initial.stage) → g.K.PacketSink.holds l.initial.out start before
    → HasGone g.S.Stage.refusal g.S.Stage.sends l.initial.stage ps l.kept l.stage (λ qs. g.K.PacketSink.holds l.out start (before ++ qs))
    × ((c : Purpose) → g.S.AirStage.begins l.initial.stage c → SoundAir l.air c ps))

-- each read gives one packet more, and no source gives 2^64
abbrev pub decreases-loop-fault : goal.decreases-loop-fault
decreases-loop-fault g l = 2 ^ 64 - g.P.PacketSource.given l.network
