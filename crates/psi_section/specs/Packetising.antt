-- The packets in which a section goes out (ISO/IEC 13818-1, 2.4.3.2 and 2.4.4.1): payload alone, the first with
-- payload_unit_start_indicator and a pointer_field of 0, the last filled with 0xFF.
use Rattle.std.specs.Prelude.{◌≡◌, ℕ, zero, suc, ◌+◌, ◌-◌, ◌/◌, ◌%◌, List, [], ◌∷◌, ◌++◌, length, take, drop, replicate}
use Rattle.ts_packet.specs.Filling.{packets_for}
use Rattle.psi_section.specs.declared.packetiser.Packetiser.{Packetiser}

-- the first so many bytes, filled with 0xFF
abbrev pub padded : ℕ → List ℕ → List ℕ
padded room bs = take room bs ++ replicate (room - length bs) 0xFF

-- the packet in which a section begins
abbrev pub first_packet : ℕ → ℕ → List ℕ → List ℕ
first_packet pid n bs = 0x47 ∷ (pid / 256 + 64) ∷ pid % 256 ∷ (16 + n) ∷ 0 ∷ padded 183 bs

-- a packet in which it goes on
abbrev pub next_packet : ℕ → ℕ → List ℕ → List ℕ
next_packet pid n bs = 0x47 ∷ (pid / 256) ∷ pid % 256 ∷ (16 + n) ∷ padded 184 bs

-- so many packets in which a section goes on with these bytes
abbrev pub later_packets : ℕ → ℕ → ℕ → List ℕ → List (List ℕ)
later_packets zero pid n bs = []
later_packets (suc count) pid n bs = next_packet pid n bs ∷ later_packets count pid ((n + 1) % 16) (drop 184 bs)

-- the packets behind the first
abbrev pub rest_packets : ℕ → ℕ → List ℕ → List (List ℕ)
rest_packets pid n bs = later_packets (packets_for (length bs)) pid n bs

-- the packets of a section, where the first has this counter
abbrev pub section_packets : ℕ → ℕ → List ℕ → List (List ℕ)
section_packets pid n s = first_packet pid n s ∷ rest_packets pid ((n + 1) % 16) (drop 183 s)

-- the packets of sections, one after another
abbrev pub packets_in_turn : ℕ → ℕ → List (List ℕ) → List (List ℕ)
packets_in_turn pid n [] = []
packets_in_turn pid n (s ∷ ss) = section_packets pid n s ++ packets_in_turn pid ((n + length (section_packets pid n s)) % 16) ss

-- the packets of a section, by the packetiser that writes them
abbrev pub packets_of : Packetiser → List ℕ → List (List ℕ)
packets_of p s = section_packets p.pid p.counter s

-- the packets in which a section goes on with these bytes
abbrev pub rest_of : Packetiser → List ℕ → List (List ℕ)
rest_of p bs = rest_packets p.pid p.counter bs

-- its packets have this PID, and the next this counter
pub record Puts (p : Packetiser) (pid n : ℕ) : Type 0 where
  pub same_pid : p.pid ≡ pid
  pub upcoming : p.counter ≡ n

-- the packetiser after this many packets
abbrev pub PutsAfter : Packetiser → Packetiser → ℕ → Type 0
PutsAfter new old count = Puts new old.pid ((old.counter + count) % 16)

-- Some of the packets went out, and the next failed so; the packetiser goes on behind those that went out.
pub record PutFails (old new : Packetiser) (packets : List (List ℕ)) (fails : List (List ℕ) → List ℕ → Type 0) : Type 0 where
  pub put : List (List ℕ)
  pub packet : List ℕ
  pub left : List (List ℕ)
  pub all : packets ≡ put ++ packet ∷ left
  pub fault : fails put packet
  pub counted : PutsAfter new old (length put)
