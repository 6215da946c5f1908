-- The entries of a program map (ISO/IEC 13818-1, 2.4.4.8): of each stream_type, elementary_PID, ES_info_length and that many bytes.
use Rattle.std.specs.Prelude.{ℕ, ◌+◌, ◌/◌, ◌%◌, ◌<◌, List, [], ◌∷◌, ◌++◌, length, take, drop, Bool, slice_index, nat_lt, ◌==◌, ◌||◌, if◌then◌else◌, Option, Some, None, Result, Ok, Err}
use Rattle.std.specs.List.{filter}
use Rattle.std.specs.Borrow.{Bor}
use Rattle.arrayvec.specs.ArrayVec.{ArrayVec}
use Rattle.byteorder.specs.Endian.{big_bytes}
use Rattle.wire_fields.specs.Numbers.{number16_at}
use Rattle.psi_tables.specs.Sections.{length_field}
use Rattle.psi_tables.specs.declared.fault.TooManyStreams.{TooManyStreams}
use Rattle.psi_tables.specs.declared.stream.Stream.{Stream}

-- pid_field is reserved bits and elementary_PID, info_flags the bits before ES_info_length, and info its descriptors
pub record Entry : Type 0 where
  pub kind : ℕ
  pub pid_field : ℕ
  pub info_flags : ℕ
  pub info : List ℕ

abbrev pub entry_bytes : Entry → List ℕ
entry_bytes e = (e.kind ∷ []) ++ big_bytes 2 e.pid_field ++ length_field e.info_flags (length e.info) ++ e.info

-- what has a spelling
pub record IsEntry (e : Entry) : Type 0 where
  pub kind : e.kind < 256
  pub pid_field : e.pid_field < 65536
  pub info_flags : e.info_flags < 16
  pub size : length e.info < 4096

-- a PID stands in the low 13 bits of its field
abbrev pub pid_in : ℕ → ℕ
pid_in pid_field = pid_field % 8192

-- the stream that an entry lists
abbrev pub stream_of : Entry → Stream
stream_of e = record { kind = e.kind; pid = pid_in e.pid_field }

-- the size of the entry at the front, by its ES_info_length
abbrev pub entry_size : List ℕ → ℕ
entry_size bytes = 5 + number16_at bytes 3 % 4096

abbrev pub front_entry : List ℕ → Entry
front_entry bytes = record {
  kind = slice_index bytes 0;
  pid_field = number16_at bytes 1;
  info_flags = number16_at bytes 3 / 4096;
  info = take (number16_at bytes 3 % 4096) (drop 5 bytes);
}

-- the entry at the front and the bytes behind it, where the bytes don't end before it does
unfoldable pub entry_at : List ℕ → Option (Entry × List ℕ)
entry_at bytes = if nat_lt (length bytes) (entry_size bytes) then None else Some (front_entry bytes, drop (entry_size bytes) bytes)

-- what the code takes from the front: the stream, the entry's own bytes and those behind it
abbrev pub taken_entry : Stream × Bor (List ℕ) × Bor (List ℕ) → Stream × List ℕ × List ℕ
taken_entry t = (t.0, t.1.now, t.2.now)

abbrev pub shown_entry : List ℕ → Entry × List ℕ → Stream × List ℕ × List ℕ
shown_entry bytes e = (stream_of e.0, take (entry_size bytes) bytes, e.1)

-- the stream_types of streams that are switched: MPEG-1, MPEG-2, AVC and HEVC video, and audio of MPEG-1, MPEG-2, ADTS AAC, LATM AAC
-- and AC-3
abbrev pub is_switched : ℕ → Bool
is_switched kind =
    (kind == 1) || (kind == 2) || (kind == 3) || (kind == 4) || (kind == 15) || (kind == 17) || (kind == 27) || (kind == 36) || (kind == 129)

-- the switched streams among these, in order
abbrev pub switched_of : List Stream → List Stream
switched_of streams = filter (λ s. is_switched s.kind) streams

-- the switched streams, where these are no more than eight
abbrev pub few_switched : List Stream → Result (List Stream) TooManyStreams
few_switched streams = if nat_lt 8 (length (switched_of streams)) then Err (record {}) else Ok (switched_of streams)

-- what the code answers, by the list's elements
abbrev pub seen_switched : Result (ArrayVec Stream) TooManyStreams → Result (List Stream) TooManyStreams
seen_switched (Ok v) = Ok v.items
seen_switched (Err e) = Err e
