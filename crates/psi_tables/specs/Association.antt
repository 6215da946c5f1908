-- The program association section, PAT (ISO/IEC 13818-1, 2.4.4.3), in one section.
use Rattle.std.specs.Prelude.{◌≡◌, ℕ, ◌+◌, ◌-◌, ◌/◌, ◌<◌, ◌≤◌, List, [], ◌∷◌, ◌++◌, length, drop, find, Bool, true, not, slice_index, nat_lt, ◌==◌, ◌&&◌, if◌then◌else◌, is_some, Option, Some, None, option_map, Result}
use Rattle.std.specs.List.{flat_map, AllByRecursion}
use Rattle.std.specs.Borrow.{Bor}
use Rattle.byteorder.specs.Endian.{big_bytes}
use Rattle.psi_tables.specs.declared.fault.TableFault.{TableFault}
use Rattle.psi_tables.specs.declared.fault.TableFault.TheVariants.{WrongTable, BadLength, Sections}
use Rattle.wire_fields.specs.Numbers.{number16_at, number32_at}
use Rattle.psi_tables.specs.Sections.{length_field, is_table, has_size, before_crc, is_current, or_fault}
use Rattle.psi_tables.specs.Runs.{run_of, things_of}
use Rattle.psi_tables.specs.Streams.{pid_in}

-- program_number, and reserved bits and the PID beside it
pub record Pair : Type 0 where
  pub number : ℕ
  pub pid_field : ℕ

abbrev pub pair_bytes : Pair → List ℕ
pair_bytes p = big_bytes 2 p.number ++ big_bytes 2 p.pid_field

pub record IsPair (p : Pair) : Type 0 where
  pub number : p.number < 65536
  pub pid_field : p.pid_field < 65536

-- the pair at the front and the bytes behind it
unfoldable pub pair_at : List ℕ → Option (Pair × List ℕ)
pair_at bytes = if nat_lt (length bytes) 4 then None else Some (record { number = number16_at bytes 0; pid_field = number16_at bytes 2 }, drop 4 bytes)

-- what the code takes from the front: the number, the PID and the bytes behind them
abbrev pub taken_pair : ℕ × ℕ × Bor (List ℕ) → ℕ × ℕ × List ℕ
taken_pair t = (t.0, t.1, t.2.now)

abbrev pub shown_pair : Pair × List ℕ → ℕ × ℕ × List ℕ
shown_pair p = (p.0.number, pid_in p.0.pid_field, p.1)

-- the fields in order: flags is section_syntax_indicator and the three bits behind it, version the byte of version_number and
-- current_next_indicator
pub record Association : Type 0 where
  pub flags : ℕ
  pub stream_id : ℕ
  pub version : ℕ
  pub section_number : ℕ
  pub last_section_number : ℕ
  pub pairs : List Pair
  pub crc : ℕ

-- the bytes before CRC_32: nine that section_length counts stand beside the pairs, CRC_32 among them
abbrev pub association_body : Association → List ℕ
association_body a =
    (0 ∷ []) ++ length_field a.flags (9 + length (flat_map pair_bytes a.pairs)) ++ big_bytes 2 a.stream_id
    ++ (a.version ∷ a.section_number ∷ a.last_section_number ∷ []) ++ flat_map pair_bytes a.pairs

abbrev pub pat_section : Association → List ℕ
pat_section a = association_body a ++ big_bytes 4 a.crc

-- what has a spelling: a table that applies now stands in one section
pub record IsAssociation (a : Association) : Type 0 where
  pub syntax : 8 ≤ a.flags
  pub flags : a.flags < 16
  pub stream_id : a.stream_id < 65536
  pub version : a.version < 256
  pub section_number : a.section_number < 256
  pub last_section_number : a.last_section_number < 256
  pub pairs : AllByRecursion IsPair a.pairs
  pub crc : a.crc < 4294967296
  pub size : 9 + length (flat_map pair_bytes a.pairs) ≤ 1021
  pub whole : is_current a.version ≡ true → a.last_section_number ≡ 0

-- ---- how it is read

-- where the pairs stand
abbrev pub pairs_in : List ℕ → List ℕ
pairs_in bytes = drop 8 (before_crc bytes)

-- the fields by their places
unfoldable pub association_of : List ℕ → Association
association_of bytes = record {
  flags = number16_at bytes 1 / 4096;
  stream_id = number16_at bytes 3;
  version = slice_index bytes 5;
  section_number = slice_index bytes 6;
  last_section_number = slice_index bytes 7;
  pairs = things_of pair_at (pairs_in bytes);
  crc = number32_at bytes (length bytes - 4);
}

-- the pairs fill the section exactly
unfoldable pub pat_fills : List ℕ → Bool
pat_fills bytes = has_size 12 bytes && is_some (run_of pair_at (pairs_in bytes))

-- the first fault of these bytes as a PAT
unfoldable pub pat_fault : List ℕ → Option TableFault
pat_fault bytes =
    if nat_lt (length bytes) 3 then Some BadLength
    else (if not (is_table 0 bytes) then Some WrongTable
    else (if not (pat_fills bytes) then Some BadLength
    else (if is_current (slice_index bytes 5) && not (slice_index bytes 7 == 0) then Some Sections else None)))

unfoldable pub pat : List ℕ → Result Association TableFault
pat bytes = or_fault (pat_fault bytes) (association_of bytes)

-- ---- what it says

-- the PID beside this number, where it first stands
abbrev pub pid_of_program : ℕ → List Pair → Option ℕ
pid_of_program number pairs = option_map (λ p. pid_in p.pid_field) (find (λ p. p.number == number) pairs)

-- the first program and its PID: number 0 is none, its PID is that of the network information
abbrev pub first_program_of : List Pair → Option (ℕ × ℕ)
first_program_of pairs = option_map (λ p. (p.number, pid_in p.pid_field)) (find (λ p. not (p.number == 0)) pairs)
