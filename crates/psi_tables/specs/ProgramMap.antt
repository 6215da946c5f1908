-- The program map section, PMT (ISO/IEC 13818-1, 2.4.4.8).
use Rattle.std.specs.Prelude.{ℕ, ◌+◌, ◌-◌, ◌/◌, ◌%◌, ◌<◌, ◌≤◌, List, [], ◌∷◌, ◌++◌, length, take, drop, map, Bool, not, slice_index, nat_lt, nat_le, is_some, ◌&&◌, if◌then◌else◌, Option, Some, None, Result}
use Rattle.std.specs.List.{flat_map, AllByRecursion}
use Rattle.byteorder.specs.Endian.{big_bytes}
use Rattle.psi_tables.specs.declared.fault.TableFault.{TableFault}
use Rattle.psi_tables.specs.declared.fault.TableFault.TheVariants.{WrongTable, BadLength}
use Rattle.psi_tables.specs.declared.stream.Stream.{Stream}
use Rattle.wire_fields.specs.Numbers.{number16_at, number32_at}
use Rattle.psi_tables.specs.Sections.{length_field, is_table, has_size, before_crc, or_fault}
use Rattle.psi_tables.specs.Runs.{run_of, things_of}
use Rattle.psi_tables.specs.Descriptors.{Descriptor, IsDescriptor, descriptor_bytes, descriptor_at}
use Rattle.psi_tables.specs.Streams.{Entry, IsEntry, entry_bytes, entry_at, stream_of}

-- the fields in order: flags is section_syntax_indicator and the three bits behind it, version the byte of version_number and
-- current_next_indicator, pcr_field reserved bits and PCR_PID, info_flags the bits before program_info_length
pub record ProgramMap : Type 0 where
  pub flags : ℕ
  pub program : ℕ
  pub version : ℕ
  pub section_number : ℕ
  pub last_section_number : ℕ
  pub pcr_field : ℕ
  pub info_flags : ℕ
  pub descriptors : List Descriptor
  pub entries : List Entry
  pub crc : ℕ

-- section_length of a map with so long descriptors and entries: 13 bytes stand beside them, CRC_32 among these
abbrev pub map_length : List ℕ → List ℕ → ℕ
map_length info entries = 13 + length info + length entries

-- the bytes before CRC_32 with these descriptors and entries
unfoldable pub body_with : ProgramMap → List ℕ → List ℕ → List ℕ
body_with m info entries =
    (2 ∷ []) ++ length_field m.flags (map_length info entries) ++ big_bytes 2 m.program
    ++ (m.version ∷ m.section_number ∷ m.last_section_number ∷ []) ++ big_bytes 2 m.pcr_field
    ++ length_field m.info_flags (length info) ++ info ++ entries

abbrev pub descriptors_bytes : List Descriptor → List ℕ
descriptors_bytes ds = flat_map descriptor_bytes ds

abbrev pub entries_bytes : List Entry → List ℕ
entries_bytes es = flat_map entry_bytes es

-- section_length of a map
abbrev pub size_of : ProgramMap → ℕ
size_of m = map_length (descriptors_bytes m.descriptors) (entries_bytes m.entries)

abbrev pub map_body : ProgramMap → List ℕ
map_body m = body_with m (descriptors_bytes m.descriptors) (entries_bytes m.entries)

abbrev pub pmt_section : ProgramMap → List ℕ
pmt_section m = map_body m ++ big_bytes 4 m.crc

-- what has a spelling
pub record IsProgramMap (m : ProgramMap) : Type 0 where
  pub syntax : 8 ≤ m.flags
  pub flags : m.flags < 16
  pub program : m.program < 65536
  pub version : m.version < 256
  pub section_number : m.section_number < 256
  pub last_section_number : m.last_section_number < 256
  pub pcr_field : m.pcr_field < 65536
  pub info_flags : m.info_flags < 16
  pub descriptors : AllByRecursion IsDescriptor m.descriptors
  pub entries : AllByRecursion IsEntry m.entries
  pub crc : m.crc < 4294967296
  pub size : size_of m ≤ 1021

-- ---- how it is read

-- program_info_length
abbrev pub info_length : List ℕ → ℕ
info_length bytes = number16_at bytes 10 % 4096

-- where the program's descriptors stand, and its entries
abbrev pub info_in : List ℕ → List ℕ
info_in bytes = take (info_length bytes) (drop 12 (before_crc bytes))

abbrev pub entries_in : List ℕ → List ℕ
entries_in bytes = drop (info_length bytes) (drop 12 (before_crc bytes))

-- the fields by their places
unfoldable pub map_of : List ℕ → ProgramMap
map_of bytes = record {
  flags = number16_at bytes 1 / 4096;
  program = number16_at bytes 3;
  version = slice_index bytes 5;
  section_number = slice_index bytes 6;
  last_section_number = slice_index bytes 7;
  pcr_field = number16_at bytes 8;
  info_flags = number16_at bytes 10 / 4096;
  descriptors = things_of descriptor_at (info_in bytes);
  entries = things_of entry_at (entries_in bytes);
  crc = number32_at bytes (length bytes - 4);
}

-- the descriptors fill their loop exactly, and the entries what is left of the section
unfoldable pub pmt_fills : List ℕ → Bool
pmt_fills bytes =
    has_size 16 bytes && nat_le (16 + info_length bytes) (length bytes) && is_some (run_of descriptor_at (info_in bytes))
    && is_some (run_of entry_at (entries_in bytes))

-- the first fault of these bytes as a PMT
unfoldable pub pmt_fault : List ℕ → Option TableFault
pmt_fault bytes =
    if nat_lt (length bytes) 3 then Some BadLength
    else (if not (is_table 2 bytes) then Some WrongTable
    else (if not (pmt_fills bytes) then Some BadLength else None))

unfoldable pub pmt : List ℕ → Result ProgramMap TableFault
pmt bytes = or_fault (pmt_fault bytes) (map_of bytes)

-- the streams that a map lists, in order
abbrev pub streams_of : ProgramMap → List Stream
streams_of m = map stream_of m.entries
