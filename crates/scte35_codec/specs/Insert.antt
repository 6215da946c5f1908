-- How the command splice_insert() is read, from left to right (ANSI/SCTE 35, splice_insert, splice_time, break_duration).
use Rattle.std.specs.Prelude.{ℕ, ◌+◌, ◌%◌, ◌^◌, Bool, not, List, Option, Some, None, option_map, if◌then◌else◌}
use Rattle.scte35_codec.specs.declared.insert.SpliceInsert.{SpliceInsert}
use Rattle.scte35_codec.specs.declared.insert.Command.{Command}
use Rattle.scte35_codec.specs.declared.insert.Command.TheVariants.{Cancelled, Components, Inserted}
use Rattle.scte35_codec.specs.Bits.{bit_of}
use Rattle.scte35_codec.specs.Fields.{◌>>=◌, byte_at, number_at, ticks_at}

-- splice_time(): time_specified_flag is the first bit; without a time there is one byte
unfoldable pub splice_time_at : List ℕ → Option (Option ℕ × List ℕ)
splice_time_at bytes = do
  first ← byte_at bytes
  if not (bit_of 7 first.0) then Some (None, first.1) else (do
    time ← ticks_at bytes
    Some (Some time.0.1, time.1))

unfoldable pub time_unless_at : Bool → List ℕ → Option (Option ℕ × List ℕ)
time_unless_at immediate bytes = if immediate then Some (None, bytes) else splice_time_at bytes

-- break_duration(): auto_return and the duration
unfoldable pub duration_if_at : Bool → List ℕ → Option (Option (Bool × ℕ) × List ℕ)
duration_if_at given bytes =
    if not given then Some (None, bytes) else (do
      duration ← ticks_at bytes
      Some (Some (duration.0.0, duration.0.1), duration.1))

-- behind the byte of flags: out_of_network_indicator, program_splice_flag, duration_flag and splice_immediate_flag are its bits 7 to 4
unfoldable pub inserted_at : ℕ → ℕ → List ℕ → Option (SpliceInsert × List ℕ)
inserted_at event flags bytes = do
  time ← time_unless_at (bit_of 4 flags) bytes
  duration ← duration_if_at (bit_of 5 flags) time.1
  program ← number_at 2 duration.1
  avail ← byte_at program.1
  expected ← byte_at avail.1
  Some (
    record {
      event = event;
      out = bit_of 7 flags;
      time = time.0;
      length = duration.0;
      program = program.0;
      avail = avail.0;
      expected = expected.0;
    },
    expected.1,
  )

-- A cancel ends behind splice_event_cancel_indicator and its reserved bits. Where program_splice_flag is 0 nothing is read behind
-- the byte of flags.
unfoldable pub splice_insert_at : List ℕ → Option (Command × List ℕ)
splice_insert_at bytes = do
  event ← number_at 4 bytes
  cancel ← byte_at event.1
  if bit_of 7 cancel.0 then Some (Cancelled event.0, cancel.1) else (do
    flags ← byte_at cancel.1
    if not (bit_of 6 flags.0) then Some (Components, flags.1) else (do
      insert ← inserted_at event.0 flags.0 flags.1
      Some (Inserted insert.0, insert.1)))

-- with pts_adjustment added to pts_time, modulo 2^33
abbrev pub time_later : ℕ → Option ℕ → Option ℕ
time_later adjustment time = option_map (λ t. (t + adjustment) % 2 ^ 33) time

abbrev pub later : ℕ → SpliceInsert → SpliceInsert
later adjustment i = record i { time = time_later adjustment i.time }
