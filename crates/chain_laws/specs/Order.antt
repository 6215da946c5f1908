-- The order of the output across all PIDs, packet by packet.
use Rattle.std.specs.Prelude.{◌≡◌, ℕ, ◌++◌, List, [], Option, filter, flat_map, reverse}
use Rattle.ts_packet.specs.Runs.{Seen, seen_after}
use Rattle.psi_tables.specs.declared.config.Config.{Config}
use Rattle.ad_library.specs.Advertisements.{Advertisement}
use Rattle.injector.specs.Steps.{Step, cued}
use Rattle.output_laws.specs.Others.{is_off}
use Rattle.splice_plans.specs.Adverts.{setting_of}
use Rattle.splice_plans.specs.Switching.{Setting, front_at, rest_at}
use Rattle.switch_laws.specs.Whole.{stands_for}
use Rattle.switch_laws.specs.Standing.{StandsAs}
use Rattle.chain_laws.specs.Runs.{network_of, output_by, IsWholeRun}
use Rattle.chain_laws.specs.Others.{table_pids_by}

-- the cued stream, in order: what the switch is fed
abbrev pub cued_by : Config → List Step → List (List ℕ)
cued_by c steps = reverse (cued c steps)

-- what goes out at a packet: what is put in before it, and what stands for it
abbrev pub goes_out_at : Setting → Seen → List (List ℕ)
goes_out_at k s = front_at k s.packet s.past ++ stands_for k s.packet s.past

-- THE OUTPUT IS IN ORDER across all PIDs
pub record IsInOrder (c : Config) (filed : ℕ → Option Advertisement) (steps : List Step) : Type 0 where
  -- but on the PIDs of the PMT and of the cues the cued stream is the network, in its order
  pub network : filter (is_off (table_pids_by c steps)) (cued_by c steps) ≡ filter (is_off (table_pids_by c steps)) (network_of steps)
  -- packet by packet of it stands in the output what is put in before it and what stands for it; at the end, what is left of the advertisements
  pub order : output_by c filed steps ≡ flat_map (goes_out_at (setting_of c filed)) (seen_after [] (cued_by c steps)) ++ rest_at (setting_of c filed) (cued c steps)
  -- for a packet of a switched stream, with or without payload, stands itself with the counter of the rule, or its clock reference, or nothing
  pub stands : (p : List ℕ) (past : List (List ℕ)) → StandsAs (setting_of c filed) p past

-- THE LAW OF ORDER: no packet is held back, and none is left out but those of units in a played break
abbrev pub OrderIsTheNetworks : Type 0
OrderIsTheNetworks = (c : Config) (filed : ℕ → Option Advertisement) (steps : List Step) → IsWholeRun c filed steps → IsInOrder c filed steps
