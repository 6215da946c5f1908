-- What stops several services: a fault of the network for one of them, or a PID of two of them.
use Rattle.std.specs.Option.{option_or}
use Rattle.std.specs.Prelude.{ℕ, ◌∷◌, Bool, false, ◌||◌, if◌then◌else◌, List, [], Option, None, Some, option_map}
use Rattle.std.specs.List.{list_any}
use Rattle.ts_packet.specs.Fields.{is_among}
use Rattle.psi_tables.specs.declared.config.Config.{Config}
use Rattle.psi_tables.specs.declared.network.NetworkFault.{NetworkFault}
use Rattle.ts_packet.specs.Runs.{Seen}
use Rattle.ts_packet.specs.FirstFault.{first_fault}
use Rattle.program_follower.specs.Faults.{network_fault}
use Rattle.program_follower.specs.Purposes.{writing_cues}
use Rattle.program_follower.specs.Program.{known_pids}
use Rattle.chain_engine.specs.Stops.{as_run_fault}
use Rattle.chain_engine.specs.declared.faults.RunFault.{RunFault}
use Rattle.chain_engine.specs.declared.faults.RunFault.TheVariants.{Read, SharedPid}

-- A PID that is known of the first is known of the second, or the PID of its cues.
abbrev pub meets : Config → Config → List (List ℕ) → Bool
meets c d past = list_any (λ pid. is_among pid (d.cue_pid ∷ known_pids (Some d.program) past)) (known_pids (Some c.program) past)

-- two of them share a PID, behind these packets
abbrev pub share_a_pid : List Config → List (List ℕ) → Bool
share_a_pid [] past = false
share_a_pid (c ∷ more) past = list_any (λ d. meets c d past || meets d c past) more || share_a_pid more past

-- what is wrong with a packet behind those before it, for the first service for which something is
abbrev pub services_fault : List Config → List ℕ → List (List ℕ) → Option NetworkFault
services_fault [] p past = None
services_fault (c ∷ more) p past = option_or (network_fault (writing_cues c) p past) (services_fault more p past)

-- what stops a run at a packet: a fault for one of the services; or, once it is passed, a PID that two of them share
abbrev pub services_test : List Config → Seen → Option RunFault
services_test cs s = option_or (option_map as_run_fault (services_fault cs s.packet s.past)) (if share_a_pid cs (s.packet ∷ s.past) then Some SharedPid else None)

-- THE FIRST FAULT of these bytes
abbrev pub first_services_fault : List Config → List ℕ → Option RunFault
first_services_fault cs bs = first_fault Read (services_test cs) bs
