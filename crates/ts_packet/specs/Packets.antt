-- The packets of a string of bytes (ISO/IEC 13818-1, 2.4.3.2), and which 188 bytes are one.
use Rattle.std.specs.Prelude.{ℕ, zero, suc, ◌*◌, ◌/◌, List, [], ◌∷◌, ◌++◌, not, ◌&&◌, ◌||◌, ◌==◌, if◌then◌else◌, Option, None, Some, Result, Ok, Err, nat_le, slice_index, length, take, drop, replicate}
use Rattle.ts_packet.specs.declared.packet.PacketFault.{PacketFault}
use Rattle.ts_packet.specs.declared.packet.PacketFault.TheVariants.{SyncLost, BadAdaptation}
use Rattle.ts_packet.specs.Fields.{in_error, adaptation_control, adaptation_length}

-- the first so many parts of 188 bytes
abbrev pub parts : ℕ → List ℕ → List (List ℕ)
parts zero bs = []
parts (suc n) bs = take 188 bs ∷ parts n (drop 188 bs)

-- its whole packets
abbrev pub packets_of : List ℕ → List (List ℕ)
packets_of bs = parts (length bs / 188) bs

-- what stands behind them, under 188 bytes
abbrev pub last_part : List ℕ → List ℕ
last_part bs = drop (length bs / 188 * 188) bs

-- the bytes of packets, one after another
abbrev pub bytes_of : List (List ℕ) → List ℕ
bytes_of [] = []
bytes_of (p ∷ ps) = p ++ bytes_of ps

-- Why 188 bytes are no packet: the first byte is not 0x47; or, of a packet that is not marked in error, the adaptation field
-- reaches past the packet, where it stands alone (adaptation_field_control 10), or leaves no payload byte, where one follows (11).
unfoldable pub packet_fault : List ℕ → Option PacketFault
packet_fault p = if not (slice_index p 0 == 71) then Some SyncLost
    else (if in_error p then None
    else (if (adaptation_control p == 2 && not (nat_le (adaptation_length p) 183)) || (adaptation_control p == 3 && not (nat_le (adaptation_length p) 182)) then Some BadAdaptation
    else None))

-- these bytes, unless there is a fault
abbrev pub or_fault : Option PacketFault → List ℕ → Result (List ℕ) PacketFault
or_fault None p = Ok p
or_fault (Some fault) p = Err fault

-- a null packet: PID 0x1FFF, no start, payload alone
abbrev pub null_packet : List ℕ
null_packet = 71 ∷ 31 ∷ 255 ∷ 16 ∷ replicate 184 255
