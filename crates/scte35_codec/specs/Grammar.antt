-- The grammar: which bytes spell what, apart from how they are read (ANSI/SCTE 35, splice_info_section, splice_insert, splice_time,
-- break_duration). Bits that no line names are reserved, or are not looked at, and have any value.
use Rattle.std.specs.Prelude.{◌≡◌, ◌≢◌, ℕ, ◌+◌, ◌%◌, ◌^◌, ◌≤◌, Bool, true, false, List, [], ◌∷◌, ◌++◌, length, slice_index, Option, Some, None, ◌⊎◌}
use Rattle.std.specs.List.{flat_map}
use Rattle.scte35_codec.specs.declared.insert.SpliceInsert.{SpliceInsert}
use Rattle.scte35_codec.specs.declared.cue.CueFault.TheVariants as faults
use Rattle.wire_fields.specs.Numbers.{number_of}
use Rattle.scte35_codec.specs.Bits.{bit_of}
use Rattle.scte35_codec.specs.Descriptors.{SpliceDescriptor, descriptor_bytes, avails_of}
use Rattle.scte35_codec.specs.Insert.{later}
use Rattle.psi_section.specs.Sections.{section_length}
use Rattle.scte35_codec.specs.Reading.{CueReading, insert, cancel, null, other, bad, pts_adjustment, splice_command_length, command_part}

-- n bytes that make this number
pub record IsNumber (n value : ℕ) (text : List ℕ) : Type 0 where
  pub size : length text ≡ n
  pub worth : number_of n text ≡ value

-- five bytes: a flag, six reserved bits and 33 bits of ticks
pub record IsTicks (flag : Bool) (ticks : ℕ) (text : List ℕ) : Type 0 where
  pub size : length text ≡ 5
  pub flagged : bit_of 7 (slice_index text 0) ≡ flag
  pub worth : number_of 5 text % 2 ^ 33 ≡ ticks

-- splice_time(): time_specified_flag with pts_time; without it one byte
abbrev pub IsSpliceTime : Option ℕ → List ℕ → Type 0
IsSpliceTime (Some time) text = IsTicks true time text
IsSpliceTime None text = (first : ℕ) × (text ≡ first ∷ []) × (bit_of 7 first ≡ false)

-- with splice_immediate_flag there is no splice_time()
abbrev pub IsTime : Bool → Option ℕ → List ℕ → Type 0
IsTime true (Some time) text = ⊥
IsTime true None text = text ≡ []
IsTime false time text = IsSpliceTime time text

-- break_duration(), auto_return and the duration, stands where duration_flag is set
abbrev pub IsDuration : Bool → Option (Bool × ℕ) → List ℕ → Type 0
IsDuration true (Some d) text = IsTicks d.0 d.1 text
IsDuration true None text = ⊥
IsDuration false (Some d) text = ⊥
IsDuration false None text = text ≡ []

-- splice_insert() of the whole program
pub record IsInsert (i : SpliceInsert) (text : List ℕ) : Type 0 where
  pub event : List ℕ
  pub indicator : ℕ
  pub flags : ℕ
  pub time : List ℕ
  pub duration : List ℕ
  pub program : List ℕ
  pub whole : text ≡ event ++ indicator ∷ flags ∷ (time ++ (duration ++ (program ++ i.avail ∷ i.expected ∷ [])))
  pub splice_event_id : IsNumber 4 i.event event
  pub splice_event_cancel_indicator : bit_of 7 indicator ≡ false
  pub out_of_network_indicator : bit_of 7 flags ≡ i.out
  pub program_splice_flag : bit_of 6 flags ≡ true
  pub splice_time : IsTime (bit_of 4 flags) i.time time
  pub break_duration : IsDuration (bit_of 5 flags) i.length duration
  pub unique_program_id : IsNumber 2 i.program program

-- splice_insert() with splice_event_cancel_indicator
pub record IsCancel (event : ℕ) (text : List ℕ) : Type 0 where
  pub id : List ℕ
  pub indicator : ℕ
  pub whole : text ≡ id ++ indicator ∷ []
  pub splice_event_id : IsNumber 4 event id
  pub splice_event_cancel_indicator : bit_of 7 indicator ≡ true

-- splice_insert() of single components, as far as its flags; any bytes follow
pub record BeginsComponents (text : List ℕ) : Type 0 where
  pub id : List ℕ
  pub indicator : ℕ
  pub flags : ℕ
  pub rest : List ℕ
  pub whole : text ≡ id ++ indicator ∷ flags ∷ rest
  pub splice_event_id : length id ≡ 4
  pub splice_event_cancel_indicator : bit_of 7 indicator ≡ false
  pub program_splice_flag : bit_of 6 flags ≡ false

-- descriptor_loop_length, the descriptors, and bytes that are passed over
pub record HasLoop (ds : List SpliceDescriptor) (text : List ℕ) : Type 0 where
  pub size : List ℕ
  pub passed : List ℕ
  pub whole : text ≡ size ++ (flat_map descriptor_bytes ds ++ passed)
  pub descriptor_loop_length : IsNumber 2 (length (flat_map descriptor_bytes ds)) size

-- a command of the length that is stated for it, 0xFFF stating none, and the loop
pub record HasCommand (stated : ℕ) (Is : List ℕ → Type 0) (ds : List SpliceDescriptor) (text : List ℕ) : Type 0 where
  pub command : List ℕ
  pub rest : List ℕ
  pub whole : text ≡ command ++ rest
  pub is : Is command
  pub length_stated : (stated ≡ 4095) ⊎ (stated ≡ length command)
  pub loop : HasLoop ds rest

-- what a splice_insert() and what follows it spell
abbrev pub SpellsInsert : CueReading → ℕ → ℕ → List ℕ → Type 0
SpellsInsert (insert i avails) adjustment stated text =
    (raw : SpliceInsert) × (ds : List SpliceDescriptor) × HasCommand stated (IsInsert raw) ds text × (i ≡ later adjustment raw) × (avails ≡ avails_of ds)
SpellsInsert (cancel event) adjustment stated text = (ds : List SpliceDescriptor) × HasCommand stated (IsCancel event) ds text
SpellsInsert other adjustment stated text = BeginsComponents text
SpellsInsert null adjustment stated text = ⊥
SpellsInsert (bad fault) adjustment stated text = ⊥

abbrev pub SpellsInsertIn : List ℕ → CueReading → Type 0
SpellsInsertIn bytes read = SpellsInsert read (pts_adjustment bytes) (splice_command_length bytes) (command_part bytes)

-- ---- sections

-- table_id, and the least size with CRC_32
pub record IsCue (bytes : List ℕ) : Type 0 where
  pub size : 20 ≤ length bytes
  pub table_id : slice_index bytes 0 ≡ 0xFC

-- section_length counts the bytes behind it
pub record IsWhole (bytes : List ℕ) : Type 0 where
  pub cue : IsCue bytes
  pub size : section_length bytes + 3 ≡ length bytes

pub record IsVersioned (bytes : List ℕ) : Type 0 where
  pub section : IsWhole bytes
  pub protocol_version : slice_index bytes 3 ≡ 0

-- a section that is read on, with this splice_command_type
pub record IsClearCommand (kind : ℕ) (bytes : List ℕ) : Type 0 where
  pub section : IsVersioned bytes
  pub encrypted_packet : bit_of 7 (slice_index bytes 4) ≡ false
  pub splice_command_type : slice_index bytes 13 ≡ kind

abbrev pub Spells : CueReading → List ℕ → Type 0
Spells (insert i avails) bytes = IsClearCommand 5 bytes × SpellsInsertIn bytes (insert i avails)
Spells (cancel event) bytes = IsClearCommand 5 bytes × SpellsInsertIn bytes (cancel event)
Spells null bytes = IsClearCommand 0 bytes
Spells other bytes = (IsClearCommand 5 bytes × SpellsInsertIn bytes other) ⊎ ((kind : ℕ) × IsClearCommand kind bytes × (kind ≢ 0) × (kind ≢ 5))
Spells (bad faults.NotCue) bytes = ¬ IsCue bytes
Spells (bad faults.Length) bytes = IsCue bytes × (¬ IsWhole bytes)
Spells (bad faults.Version) bytes = IsWhole bytes × (¬ IsVersioned bytes)
Spells (bad faults.Encrypted) bytes = IsVersioned bytes × (bit_of 7 (slice_index bytes 4) ≡ true)
-- a splice_insert() that spells nothing
Spells (bad faults.Command) bytes = IsClearCommand 5 bytes × ((read : CueReading) → ¬ SpellsInsertIn bytes read)
