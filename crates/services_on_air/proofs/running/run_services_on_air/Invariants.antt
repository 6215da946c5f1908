use Rattle.std.proofs.Common.{◌≡◌, ◌-◌, ◌^◌, List, ℕ, [], ◌++◌, Option, length, reverse}
use Rattle.ts_packet.specs.Sources.{HasGiven}
use Rattle.cued_laws.specs.Laws.{ArePacketsOfBytes}
use Rattle.psi_tables.specs.declared.config.Config.{Config}
use Rattle.service_laws.specs.Services.{ServiceTerms, configs_of}
use Rattle.chain_engine.specs.Runs.{Exchanged}
use Rattle.chain_services.specs.Serving.{FiledAs}
use Rattle.services_on_air.specs.Standing.{AirServicesStandFor}
use Rattle.services_on_air.specs.Serving.{AirServicesBegin, RunsSoFar}
use Rattle.services_on_air.proofs.running.run_services_on_air.Given as goal

-- these packets were read and passed on, and what goes out for them is out
abbrev pub invariant-loop-fault : goal.invariant-loop-fault
invariant-loop-fault g l = (ps : List (List ℕ)) × HasGiven (g.P.PacketSource.left l.initial.network) (g.P.PacketSource.left l.network) (g.P.PacketSource.given l.initial.network) (g.P.PacketSource.given l.network) ps
    × ArePacketsOfBytes (reverse ps)
    × g.P.PacketSource.leads l.initial.network l.network
    × g.K.PacketSink.leads l.initial.out l.out
    × ((cs : List Config) → AirServicesStandFor l.initial.services cs [] → length l.libraries ≡ length cs → AirServicesStandFor l.services cs (reverse ps))
    × ((ts : List ServiceTerms) (start : Option (List ℕ)) (before : List (List ℕ)) → AirServicesStandFor l.initial.services (configs_of ts) []
    → AirServicesBegin l.initial.services (configs_of ts) → FiledAs l.libraries ts → g.K.PacketSink.holds l.initial.out start before
    → RunsSoFar l.services ts (reverse ps) (λ q. g.K.PacketSink.holds l.out start (before ++ q))
    (Exchanged g.U.Automation.exchanges g.U.Automation.failures l.initial.automation l.automation))

-- each read gives one packet more, and no source gives 2^64
abbrev pub decreases-loop-fault : goal.decreases-loop-fault
decreases-loop-fault g l = 2 ^ 64 - g.P.PacketSource.given l.network
