-- The one spelling of each cue of our own (ANSI/SCTE 35, splice_info_section, splice_insert, splice_time, break_duration,
-- avail_descriptor): reserved bits are ones, pts_adjustment and encryption_algorithm 0, cw_index 0xFF, tier 0xFFF.
use Rattle.std.specs.Prelude.{ℕ, ◌+◌, ◌*◌, ◌<◌, ◌^◌, true, false, List, [], ◌∷◌, ◌++◌, length, Some, None}
use Rattle.std.specs.List.{flat_map, AllByRecursion}
use Rattle.byteorder.specs.Endian.{big_bytes}
use Rattle.psi_section.specs.Crc.{with_crc}
use Rattle.scte35_codec.specs.declared.cue_out.CueOut.{CueOut}
use Rattle.scte35_codec.specs.declared.cue_out.CueOut.TheVariants.{Start, Cancel, End}
use Rattle.scte35_codec.specs.Reading.{CueReading, insert, cancel}

-- from table_id to splice_command_type, by splice_command_length and descriptor_loop_length: the four bits beside section_length
-- are 0011, and between section_length and cw_index all bits are 0
abbrev pub head_bytes : ℕ → ℕ → List ℕ
head_bytes command descriptors =
    (0xFC ∷ []) ++ big_bytes 2 (0x3000 + (17 + command + descriptors)) ++ (0 ∷ 0 ∷ 0 ∷ 0 ∷ 0 ∷ 0 ∷ 0xFF ∷ [])
    ++ big_bytes 3 (0xFFF000 + command) ++ (5 ∷ [])

-- a flag that is set, six reserved bits, and 33 bits of ticks
abbrev pub ticks_bytes : ℕ → List ℕ
ticks_bytes ticks = big_bytes 5 (127 * 2 ^ 33 + ticks)

abbrev pub avail_descriptor_bytes : ℕ → List ℕ
avail_descriptor_bytes id = (0 ∷ 8 ∷ 0x43 ∷ 0x55 ∷ 0x45 ∷ 0x49 ∷ []) ++ big_bytes 4 id

-- descriptor_loop_length and an avail_descriptor for each id
abbrev pub loop_bytes : List ℕ → List ℕ
loop_bytes ids = big_bytes 2 (10 * length ids) ++ flat_map avail_descriptor_bytes ids

-- splice_event_id, not cancelled; out of the network, of the whole program, with a duration, not immediate; a time that is
-- specified, a duration with automatic return
abbrev pub start_bytes : ℕ → ℕ → ℕ → ℕ → ℕ → ℕ → List ℕ
start_bytes event time duration program avail expected =
    big_bytes 4 event ++ (0x7F ∷ 0xEF ∷ []) ++ ticks_bytes time ++ ticks_bytes duration ++ big_bytes 2 program ++ (avail ∷ expected ∷ [])

-- back to the network, of the whole program, without a duration, not immediate
abbrev pub end_bytes : ℕ → ℕ → List ℕ
end_bytes event time = big_bytes 4 event ++ (0x7F ∷ 0x4F ∷ []) ++ ticks_bytes time ++ (0 ∷ 0 ∷ 0 ∷ 0 ∷ [])

-- all but CRC_32
unfoldable pub unchecked_bytes : CueOut → List ℕ
unchecked_bytes (Start event time duration program avail expected avails) =
    head_bytes 20 (10 * length avails.items) ++ start_bytes event time duration program avail expected ++ loop_bytes avails.items
unchecked_bytes (Cancel event) = head_bytes 5 0 ++ (big_bytes 4 event ++ (0xFF ∷ [])) ++ loop_bytes []
unchecked_bytes (End event time) = head_bytes 15 0 ++ end_bytes event time ++ loop_bytes []

unfoldable pub cue_bytes : CueOut → List ℕ
cue_bytes cue = with_crc (unchecked_bytes cue)

-- what such a cue says
abbrev pub told_of : CueOut → CueReading
told_of (Start event time duration program avail expected avails) =
    insert (record { event = event; out = true; time = Some time; length = Some (true, duration); program = program; avail = avail; expected = expected }) avails.items
told_of (Cancel event) = cancel event
told_of (End event time) =
    insert (record { event = event; out = false; time = Some time; length = None; program = 0; avail = 0; expected = 0 }) []

-- what fits the fields
abbrev pub Fits : CueOut → Type 0
Fits (Start event time duration program avail expected avails) =
    (event < 2 ^ 32) × (time < 2 ^ 33) × (duration < 2 ^ 33) × (program < 2 ^ 16) × (length avails.items < 15) × AllByRecursion (λ id. id < 2 ^ 32) avails.items
Fits (Cancel event) = event < 2 ^ 32
Fits (End event time) = (event < 2 ^ 32) × (time < 2 ^ 33)
