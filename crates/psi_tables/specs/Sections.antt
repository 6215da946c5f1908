-- What the sections of all tables have in common (ISO/IEC 13818-1, 2.4.4.3, 2.4.4.8).
use Rattle.std.specs.Prelude.{ℕ, ◌+◌, ◌-◌, ◌*◌, ◌%◌, List, length, take, Bool, slice_index, nat_le, ◌==◌, ◌&&◌, Option, Some, None, Result, Ok, Err}
use Rattle.byteorder.specs.Endian.{big_bytes}
use Rattle.psi_tables.specs.declared.fault.TableFault.{TableFault}
use Rattle.psi_section.specs.Sections.{section_length, has_syntax}

-- a length of 12 bits behind four others
abbrev pub length_field : ℕ → ℕ → List ℕ
length_field flags size = big_bytes 2 (flags * 4096 + size)

-- table_id, and section_syntax_indicator 1
abbrev pub is_table : ℕ → List ℕ → Bool
is_table id bytes = (slice_index bytes 0 == id) && has_syntax bytes

-- section_length is 1021 at most and that of these bytes, and these are no fewer than the fixed fields and CRC_32
abbrev pub has_size : ℕ → List ℕ → Bool
has_size least bytes = nat_le (section_length bytes) 1021 && (section_length bytes + 3 == length bytes) && nat_le least (length bytes)

-- the bytes before CRC_32
abbrev pub before_crc : List ℕ → List ℕ
before_crc bytes = take (length bytes - 4) bytes

-- current_next_indicator, in the byte of version_number
abbrev pub is_current : ℕ → Bool
is_current version = version % 2 == 1

-- the value, where there is no fault
abbrev pub or_fault : {A : Type 0} → Option TableFault → A → Result A TableFault
or_fault None x = Ok x
or_fault (Some f) x = Err f

-- what a reader answers, where its table is seen so
abbrev pub seen_by : {A B : Type 0} → (A → B) → Result A TableFault → Result B TableFault
seen_by f (Ok x) = Ok (f x)
seen_by f (Err e) = Err e
