-- The first fault of the bytes of a network: what 188 of them are not, and then what a packet may not be behind those before it.
use Rattle.std.specs.Prelude.{ℕ, List, Option, option_map}
use Rattle.ts_packet.specs.Runs.{Seen}
use Rattle.ts_packet.specs.FirstFault.{first_fault, before_fault}
use Rattle.ts_packet.specs.declared.reader.ReadFault.{ReadFault}
use Rattle.psi_tables.specs.declared.network.NetworkFault.{NetworkFault}
use Rattle.program_follower.specs.declared.purpose.Purpose.{Purpose}
use Rattle.program_follower.specs.Faults.{network_fault}

-- what is wrong with a packet of the network, by the name that a run gives it
abbrev pub network_test : {F : Type 0} → (NetworkFault → F) → Purpose → Seen → Option F
network_test name c s = option_map name (network_fault c s.packet s.past)

-- THE FIRST FAULT of these bytes, for this purpose: the reader's faults and the network's, by the names that a run gives them
abbrev pub first_network_fault : {F : Type 0} → (ReadFault → F) → (NetworkFault → F) → Purpose → List ℕ → Option F
first_network_fault read name c bs = first_fault read (network_test name c) bs

-- the packets before it
abbrev pub before_network_fault : {F : Type 0} → (ReadFault → F) → (NetworkFault → F) → Purpose → List ℕ → List (List ℕ)
before_network_fault read name c bs = before_fault read (network_test name c) bs
