-- What a splice_info_section is read as, with the first fault.
use Rattle.std.specs.Prelude.{ℕ, ◌+◌, ◌-◌, ◌%◌, ◌^◌, not, ◌||◌, List, length, take, drop, slice_index, Option, Some, None, nat_lt, ◌==◌, if◌then◌else◌}
use Rattle.std.specs.Option.{option_map_or}
use Rattle.scte35_codec.specs.declared.cue.CueFault.{CueFault}
use Rattle.scte35_codec.specs.declared.cue.CueFault.TheVariants as faults
use Rattle.psi_section.specs.Sections.{section_length}
use Rattle.wire_fields.specs.Numbers.{number_of}
use Rattle.scte35_codec.specs.Bits.{bit_of}
use Rattle.scte35_codec.specs.Descriptors.{SpliceDescriptor, descriptor_loop_at, avails_of}
use Rattle.scte35_codec.specs.declared.insert.SpliceInsert.{SpliceInsert}
use Rattle.scte35_codec.specs.declared.insert.Command.{Command}
use Rattle.scte35_codec.specs.declared.insert.Command.TheVariants.{Cancelled, Components, Inserted}
use Rattle.scte35_codec.specs.Insert.{splice_insert_at, later}

-- an insert has its fields, with the time adjusted, and its provider_avail_ids
pub data CueReading : Type 0 where
  insert : SpliceInsert → List ℕ → CueReading
  cancel : ℕ → CueReading
  null : CueReading
  other : CueReading
  bad : CueFault → CueReading

-- ---- the fields at fixed places

-- 33 bits, behind encrypted_packet and encryption_algorithm
unfoldable pub pts_adjustment : List ℕ → ℕ
pts_adjustment bytes = number_of 5 (drop 4 bytes) % 2 ^ 33

-- 12 bits, behind tier; 0xFFF is a length that isn't stated
unfoldable pub splice_command_length : List ℕ → ℕ
splice_command_length bytes = number_of 3 (drop 10 bytes) % 4096

-- what stands between splice_command_type and CRC_32
unfoldable pub command_part : List ℕ → List ℕ
command_part bytes = take (length (drop 14 bytes) - 4) (drop 14 bytes)

-- ---- from left to right

-- the descriptors behind a command that has the length that is stated for it
unfoldable pub behind_command : ℕ → ℕ → List ℕ → Option (List SpliceDescriptor)
behind_command stated size rest = if (stated == 4095) || (stated + length rest == size) then descriptor_loop_at rest else None

abbrev pub with_loop : (List SpliceDescriptor → CueReading) → Option (List SpliceDescriptor) → CueReading
with_loop told read = option_map_or told read (bad faults.Command)

abbrev pub told_by : ℕ → ℕ → ℕ → Option (Command × List ℕ) → CueReading
told_by adjustment stated size None = bad faults.Command
told_by adjustment stated size (Some (Components, rest)) = other
told_by adjustment stated size (Some (Cancelled event, rest)) = with_loop (λ ds. cancel event) (behind_command stated size rest)
told_by adjustment stated size (Some (Inserted i, rest)) = with_loop (λ ds. insert (later adjustment i) (avails_of ds)) (behind_command stated size rest)

unfoldable pub splice_insert_of : List ℕ → CueReading
splice_insert_of bytes = told_by (pts_adjustment bytes) (splice_command_length bytes) (length (command_part bytes)) (splice_insert_at (command_part bytes))

-- table_id, section_length, protocol_version, encrypted_packet and splice_command_type, in this order
unfoldable pub cue_of : List ℕ → CueReading
cue_of bytes =
    if nat_lt (length bytes) 20 || not (slice_index bytes 0 == 252) then bad faults.NotCue
    else (if not (section_length bytes + 3 == length bytes) then bad faults.Length
    else (if not (slice_index bytes 3 == 0) then bad faults.Version
    else (if bit_of 7 (slice_index bytes 4) then bad faults.Encrypted
    else (if slice_index bytes 13 == 0 then null
    else (if slice_index bytes 13 == 5 then splice_insert_of bytes
    else other)))))
