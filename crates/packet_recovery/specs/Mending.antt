-- Packets whose adaptation field does not fit, taken for damaged ones (ISO/IEC 13818-1, 2.4.3.4 and 2.4.3.5, adaptation_field_length): they
-- are marked in error (2.4.3.3, transport_error_indicator), so that nothing is read from their other bytes.
use Rattle.std.specs.Prelude.{ℕ, ◌/◌, ◌%◌, List, Bool, true, false, ◌&&◌, ◌||◌, ◌==◌, nat_le, Option, None, Some, length, map, filter, slice_index}
use Rattle.ts_packet.specs.Fields.{marked}
use Rattle.ts_packet.specs.Packets.{packet_fault}
use Rattle.ts_packet.specs.declared.packet.PacketFault.{PacketFault}
use Rattle.ts_packet.specs.declared.packet.PacketFault.TheVariants.{SyncLost, BadAdaptation}

-- the fault is one of the adaptation field
abbrev pub of_adaptation : Option PacketFault → Bool
of_adaptation None = false
of_adaptation (Some SyncLost) = false
of_adaptation (Some BadAdaptation) = true

-- a packet with that fault marked in error, and any other as it is
abbrev pub mend_by : Option PacketFault → List ℕ → List ℕ
mend_by None p = p
mend_by (Some SyncLost) p = p
mend_by (Some BadAdaptation) p = marked p

abbrev pub mend : List ℕ → List ℕ
mend p = mend_by (packet_fault p) p

-- THE PACKETS THAT ARE PASSED ON for these
unfoldable pub mended : List (List ℕ) → List (List ℕ)
mended ps = map mend ps

-- how many of them are marked so
abbrev pub is_mended : List ℕ → Bool
is_mended p = of_adaptation (packet_fault p)

unfoldable pub mends : List (List ℕ) → ℕ
mends ps = length (filter is_mended ps)

-- It is seen at once that the packet has no fault: sync is there, and no adaptation field is, or one that leaves a byte of the packet.
abbrev pub is_plain : List ℕ → Bool
is_plain p = (slice_index p 0 == 71) && ((slice_index p 3 / 32 % 2 == 0) || nat_le (slice_index p 4) 182)
