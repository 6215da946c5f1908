-- The first fault of the bytes of a network, packet by packet, for each purpose for which a network is followed.
use Rattle.std.specs.Option.{option_or}
use Rattle.std.specs.Prelude.{◌≡◌, ℕ, ◌<◌, List, [], ◌∷◌, ◌++◌, Option, None, reverse, length, All}
use Rattle.ts_packet.specs.Packets.{bytes_of, packet_fault}
use Rattle.ts_packet.specs.FirstFault.{fault_of, fault_behind}
use Rattle.ts_packet.specs.declared.reader.ReadFault.{ReadFault}
use Rattle.psi_tables.specs.declared.network.NetworkFault.{NetworkFault}
use Rattle.program_follower.specs.declared.purpose.Purpose.{Purpose}
use Rattle.program_follower.specs.Faults.{first_fault}
use Rattle.program_follower.specs.FirstFault.{network_test, first_network_fault}

-- what is wrong with bytes: what the reader says of them, or what the network may not be
pub data BytesFault : Type 0 where
  OfReader : ReadFault → BytesFault
  OfNetwork : NetworkFault → BytesFault

abbrev pub fault_of_bytes : Purpose → List ℕ → Option BytesFault
fault_of_bytes c bs = first_network_fault OfReader OfNetwork c bs

-- what is wrong with 188 bytes behind packets, the oldest of which comes first
abbrev pub fault_of_part : Purpose → List (List ℕ) → List ℕ → Option BytesFault
fault_of_part c ps p = fault_of OfReader (network_test OfNetwork c) (record { packet = p; past = reverse ps })

abbrev pub ArePacketsLong : List (List ℕ) → Type 0
ArePacketsLong ps = All (λ p. length p ≡ 188) ps

-- one more packet: what was wrong before it, else what is wrong with it
abbrev pub OneMorePacket : Type 0
OneMorePacket = (c : Purpose) (ps : List (List ℕ)) (p : List ℕ) → ArePacketsLong (ps ++ p ∷ [])
    → fault_of_bytes c (bytes_of (ps ++ p ∷ [])) ≡ option_or (fault_of_bytes c (bytes_of ps)) (fault_of_part c ps p)

-- bytes that are no whole packet: what was wrong before them, else that they are too few
abbrev pub FewMoreBytes : Type 0
FewMoreBytes = (c : Purpose) (ps : List (List ℕ)) (rest : List ℕ) → ArePacketsLong ps → length rest < 188
    → fault_of_bytes c (bytes_of ps ++ rest) ≡ option_or (fault_of_bytes c (bytes_of ps)) (fault_behind OfReader rest)

-- bytes without fault: each part is a packet, and no packet of the network has one behind those before it
pub record IsFaultless (c : Purpose) (ps : List (List ℕ)) : Type 0 where
  pub parts : All (λ p. packet_fault p ≡ None) ps
  pub network : first_fault c (reverse ps) ≡ None

pub record SaysFaultless (c : Purpose) (ps : List (List ℕ)) : Type 0 where
  pub only : fault_of_bytes c (bytes_of ps) ≡ None → IsFaultless c ps
  pub where_so : IsFaultless c ps → fault_of_bytes c (bytes_of ps) ≡ None

abbrev pub FaultlessBytes : Type 0
FaultlessBytes = (c : Purpose) (ps : List (List ℕ)) → ArePacketsLong ps → SaysFaultless c ps
