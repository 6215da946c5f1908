-- What the texts are, where the bytes that are printed are stated.
use Rattle.std.specs.Prelude.{ℕ, Bool, List, [], ◌∷◌, ◌++◌, Option, Some, None, Ok, codes, length, drop, nat_lt, ◌==◌, if◌then◌else◌}
use Rattle.std.specs.Fmt.{decimal}
use Rattle.std.specs.Int.{w16, w32, to_be_bytes}
use Rattle.hex_digits.specs.Digits.{digits_of}
use Rattle.scte35_codec.specs.declared.insert.SpliceInsert.{SpliceInsert}
use Rattle.scte35_codec.specs.declared.cue.Cue.{Cue}
use Rattle.scte35_codec.specs.Reading as cue_reading
use Rattle.scte35_codec.specs.Views as cue_view
use Rattle.scte104_codec.specs.declared.head.Head.{Head}
use Rattle.scte104_codec.specs.declared.framing.Frame.{Frame}
use Rattle.scte104_codec.specs.declared.framing.Frame.TheVariants.{NeedMore, Whole, BadSize}
use Rattle.scte104_codec.specs.declared.message.BadMessage.{BadMessage}
use Rattle.scte104_codec.specs.declared.multi.Multi.{Multi}
use Rattle.scte104_codec.specs.declared.message.Message.{Message}
use Rattle.scte104_codec.specs.Operations.{Operation}
use Rattle.scte104_codec.specs.OperationsLeft.{operations_left}
use Rattle.scte104_codec.specs.Reading as message_reading
use Rattle.scte104_codec.specs.Views as message_view
use Rattle.psi_tables.specs.declared.stream.Stream.{Stream}
use Rattle.psi_tables.specs.Sections.{is_current}
use Rattle.psi_tables.specs.Streams.{pid_in}
use Rattle.psi_tables.specs.Association.{Association, first_program_of}
use Rattle.psi_tables.specs.ProgramMap.{ProgramMap, streams_of}
use Rattle.wire_fields.specs.Numbers.{number16_at}
use Rattle.codec_text.specs.Names.{cue_fault_name, result_name}

-- bytes in digits; `-` where there are none
abbrev pub bytes_text : List ℕ → List ℕ
bytes_text [] = codes "-"
bytes_text (b ∷ rest) = digits_of (b ∷ rest)

-- a time in ticks
abbrev pub time_text : Option ℕ → List ℕ
time_text None = codes "none"
time_text (Some ticks) = decimal ticks

-- how a break ends
abbrev pub end_text : Bool → List ℕ
end_text returns = if returns then codes "return" else codes "stay"

-- whether a break ends by itself, and its length in ticks
abbrev pub length_text : Option (Bool × ℕ) → List ℕ
length_text None = codes "none"
length_text (Some length) = decimal length.1 ++ codes "/" ++ end_text length.0

-- a program's number and the PID of its map
abbrev pub program_text : Option (ℕ × ℕ) → List ℕ
program_text None = codes "none"
program_text (Some program) = decimal program.0 ++ codes ":" ++ decimal program.1

abbrev pub head_text : Head → List ℕ
head_text h = codes "as_index=" ++ decimal h.as_index ++ codes " number=" ++ decimal h.number ++ codes " index=" ++ decimal h.index

abbrev pub frame_text : Frame → List ℕ
frame_text (NeedMore count) = codes "NeedMore " ++ decimal count
frame_text (Whole size) = codes "Whole " ++ decimal size
frame_text BadSize = codes "BadSize"

-- a message that breaks the syntax, from its bytes
abbrev pub bad_message_text : BadMessage → List ℕ → List ℕ
bad_message_text bad bytes =
    if bad.multi then codes "BadMulti " ++ head_text bad.head
    else codes "BadAlive " ++ head_text bad.head ++ codes " data=" ++ bytes_text (drop 13 bytes)

-- a flag
abbrev pub flag_text : Bool → List ℕ
flag_text flag = if flag then codes "1" else codes "0"

-- ---- cues

-- a number of four bytes in hexadecimal digits
abbrev pub number32_text : ℕ → List ℕ
number32_text n = digits_of (to_be_bytes w32 n)

-- avails behind others
abbrev pub more_avails_text : List ℕ → List ℕ
more_avails_text [] = []
more_avails_text (avail ∷ rest) = codes "," ++ number32_text avail ++ more_avails_text rest

abbrev pub avails_text : List ℕ → List ℕ
avails_text [] = codes "-"
avails_text (avail ∷ rest) = number32_text avail ++ more_avails_text rest

-- what is spliced, and when
abbrev pub splice_text : SpliceInsert → List ℕ
splice_text i =
    codes "Insert event=" ++ number32_text i.event ++ codes " out=" ++ flag_text i.out ++ codes " time=" ++ time_text i.time
    ++ codes " length=" ++ length_text i.length

-- which avail of which program that is
abbrev pub avail_text : SpliceInsert → List ℕ → List ℕ
avail_text i avails =
    codes " program=" ++ decimal i.program ++ codes " avail=" ++ decimal i.avail ++ codes " expected=" ++ decimal i.expected
    ++ codes " avails=" ++ avails_text avails

abbrev pub insert_text : SpliceInsert → List ℕ → List ℕ
insert_text i avails = splice_text i ++ avail_text i avails

-- what bytes are as a cue, or why they are none
abbrev pub cue_reading_text : cue_reading.CueReading → List ℕ
cue_reading_text (cue_reading.insert i avails) = insert_text i avails
cue_reading_text (cue_reading.cancel event) = codes "Cancel event=" ++ number32_text event
cue_reading_text cue_reading.null = codes "Null"
cue_reading_text cue_reading.other = codes "Other"
cue_reading_text (cue_reading.bad fault) = cue_fault_name fault

abbrev pub cue_text : Cue → List ℕ
cue_text c = cue_reading_text (cue_view.reading_of (Ok c))

-- ---- messages

abbrev pub operation_text : Operation → List ℕ
operation_text o = codes " " ++ digits_of (to_be_bytes w16 o.op) ++ codes ":" ++ bytes_text o.body

abbrev pub more_operations_text : List Operation → List ℕ
more_operations_text [] = []
more_operations_text (o ∷ rest) = operation_text o ++ more_operations_text rest

abbrev pub operations_text : List Operation → List ℕ
operations_text [] = codes " no-operations"
operations_text (o ∷ rest) = more_operations_text (o ∷ rest)

abbrev pub versions_text : message_reading.Multiple → List ℕ
versions_text m = codes "version=" ++ decimal m.version ++ codes " cue_version=" ++ decimal m.cue_version ++ codes " time_kind=" ++ decimal m.time_kind

abbrev pub multiple_text : message_reading.Multiple → List ℕ
multiple_text m = codes "Multi " ++ head_text m.head ++ codes " " ++ versions_text m ++ operations_text m.operations

-- the number of a result: the standard's in decimal digits, this project's in hexadecimal ones
abbrev pub result_number_text : ℕ → List ℕ
result_number_text number = if nat_lt number 0x8000 then decimal number else codes "0x" ++ digits_of (to_be_bytes w16 number)

-- a name behind a number, where there is one
abbrev pub name_text : Option (List ℕ) → List ℕ
name_text None = []
name_text (Some name) = codes "/" ++ name

abbrev pub result_text : ℕ → List ℕ
result_text number = result_number_text number ++ name_text (result_name number)

-- the result that a single_operation_message states: it stands at place 4, and 0xFFFF there is none
abbrev pub stated_result : List ℕ → Option ℕ
stated_result bytes = if nat_lt (length bytes) 6 then None else (if number16_at bytes 4 == 0xFFFF then None else Some (number16_at bytes 4))

abbrev pub stated_text : Option ℕ → List ℕ
stated_text None = []
stated_text (Some number) = codes " result=" ++ result_text number

-- what a whole message is, from its bytes, or how it breaks the syntax
abbrev pub message_reading_text : List ℕ → message_reading.MessageReading → List ℕ
message_reading_text bytes (message_reading.init head) = codes "Init " ++ head_text head
message_reading_text bytes (message_reading.alive head body) = codes "Alive " ++ head_text head ++ codes " data=" ++ bytes_text body
message_reading_text bytes (message_reading.other head) = codes "Other " ++ head_text head ++ stated_text (stated_result bytes)
message_reading_text bytes (message_reading.multiple m) = multiple_text m
message_reading_text bytes (message_reading.bad multi head) = bad_message_text (record { multi = multi; head = head }) bytes

-- the text of a message that was read, from its bytes
abbrev pub message_text : Message → List ℕ → List ℕ
message_text m bytes = message_reading_text bytes (message_view.reading_of (Ok m))

-- what is shown of the fields of a multiple_operation_message
abbrev pub multiple_of : Multi → message_reading.Multiple
multiple_of m = record { head = m.head; version = m.version; cue_version = m.cue_version; time_kind = m.time_kind; operations = operations_left m.operations }

-- ---- tables

abbrev pub stream_text : Stream → List ℕ
stream_text s = digits_of (s.kind ∷ []) ++ codes ":" ++ decimal s.pid

abbrev pub more_streams_text : List Stream → List ℕ
more_streams_text [] = []
more_streams_text (s ∷ rest) = codes "," ++ stream_text s ++ more_streams_text rest

abbrev pub streams_text : List Stream → List ℕ
streams_text [] = codes "-"
streams_text (s ∷ rest) = stream_text s ++ more_streams_text rest

abbrev pub association_text : Association → List ℕ
association_text a = codes "Pat current=" ++ flag_text (is_current a.version) ++ codes " first=" ++ program_text (first_program_of a.pairs)

-- which map it is
abbrev pub numbers_text : ProgramMap → List ℕ
numbers_text m =
    codes "Pmt program=" ++ decimal m.program ++ codes " current=" ++ flag_text (is_current m.version)
    ++ codes " numbers=" ++ decimal m.section_number ++ codes "/" ++ decimal m.last_section_number

-- its streams
abbrev pub map_streams_text : ProgramMap → List ℕ
map_streams_text m = codes " pcr=" ++ decimal (pid_in m.pcr_field) ++ codes " entries=" ++ streams_text (streams_of m)

abbrev pub map_text : ProgramMap → List ℕ
map_text m = numbers_text m ++ map_streams_text m
