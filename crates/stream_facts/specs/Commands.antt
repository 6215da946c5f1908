-- What a splice_info_section is for (ANSI/SCTE 35, 9.6.1, table of splice_command_type), where its command can be seen.
use Rattle.std.specs.Prelude.{ℕ, List, Bool, ◌&&◌, ◌==◌, if◌then◌else◌, Option, None, Some, nat_le, nat_lt, length, slice_index}
use Rattle.stream_facts.specs.declared.splice_commands.SpliceCommand.{SpliceCommand}
use Rattle.stream_facts.specs.declared.splice_commands.SpliceCommand.TheVariants.{Null, Schedule, Insert, TimeSignal, BandwidthReservation, Private, Reserved}

abbrev pub kind_of : ℕ → SpliceCommand
kind_of number = if number == 0x00 then Null
    else (if number == 0x04 then Schedule
    else (if number == 0x05 then Insert
    else (if number == 0x06 then TimeSignal
    else (if number == 0x07 then BandwidthReservation
    else (if number == 0xFF then Private
    else Reserved)))))

-- table_id 0xFC, all fields up to the first of the command with descriptor_loop_length and CRC_32, and encrypted_packet 0
abbrev pub is_clear : List ℕ → Bool
is_clear bs = nat_le 20 (length bs) && (slice_index bs 0 == 0xFC) && nat_lt (slice_index bs 4) 128

-- splice_command_type is the fourteenth byte
abbrev pub command_of : List ℕ → Option SpliceCommand
command_of bs = if is_clear bs then Some (kind_of (slice_index bs 13)) else None
