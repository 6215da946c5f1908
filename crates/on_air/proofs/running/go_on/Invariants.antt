use Rattle.std.proofs.Common.{◌-◌, ◌^◌, ◌++◌, List, ℕ, Option, reverse}
use Rattle.ts_packet.specs.Sources.{HasGiven}
use Rattle.cued_laws.specs.Laws.{ArePacketsOfBytes}
use Rattle.program_follower.specs.declared.purpose.Purpose.{Purpose}
use Rattle.on_air.specs.Stretches.{Entry, as_read}
use Rattle.on_air.specs.AirRuns.{AirStands, newest, all_next}
use Rattle.on_air.specs.AirOutputs.{IsOnAir}
use Rattle.on_air.proofs.running.go_on.Given as goal

-- these packets were read and passed on
abbrev pub invariant-loop-fault : goal.invariant-loop-fault
invariant-loop-fault g l = (ps : List (List ℕ)) × HasGiven (g.P.PacketSource.left l.initial.network) (g.P.PacketSource.left l.network) (g.P.PacketSource.given l.initial.network) (g.P.PacketSource.given l.network) ps
    × ArePacketsOfBytes (reverse ps)
    × g.S.Stage.leads l.initial.stage l.stage
    × g.P.PacketSource.leads l.initial.network l.network
    × g.K.PacketSink.leads l.initial.out l.out
    × ((c : Purpose) (ss : List (List Entry)) → AirStands l.initial.air c ss → g.S.AirStage.follows l.initial.stage c (as_read (newest ss))
    → AirStands l.air c (all_next c ps ss) × g.S.AirStage.follows l.stage c (as_read (newest (all_next c ps ss)))
    × ((first : g.row.S.Denot) (start : Option (List ℕ)) (before : List (List ℕ))
    → IsOnAir g.S.AirStage.summed (g.S.AirStage.airs first) l.initial.air l.initial.stage c ss (λ qs. g.K.PacketSink.holds l.initial.out start (before ++ qs))
    → IsOnAir g.S.AirStage.summed (g.S.AirStage.airs first) l.air l.stage c (all_next c ps ss) (λ qs. g.K.PacketSink.holds l.out start (before ++ qs))))

-- each read gives one packet more, and no source gives 2^64
abbrev pub decreases-loop-fault : goal.decreases-loop-fault
decreases-loop-fault g l = 2 ^ 64 - g.P.PacketSource.given l.network
