-- The answer to a line.
use Rattle.std.specs.Prelude.{◌≡◌, ℕ, List, [], ◌∷◌, ◌++◌, All, Option, None, Some, Result, Ok, Err, codes, map, nat_eq, take, if◌then◌else◌}
use Rattle.std.specs.Fmt.{decimal}
use lib.Pointwise.{pointwise}
use Rattle.hex_digits.specs.Digits.{spelled}
use Rattle.scte35_codec.specs.Reading.{cue_of}
use Rattle.scte104_codec.specs.declared.framing.Frame.{Frame}
use Rattle.scte104_codec.specs.declared.framing.Frame.TheVariants.{NeedMore, Whole, BadSize}
use Rattle.scte104_codec.specs.Framing.{frame_of}
use Rattle.scte104_codec.specs.Reading.{message_of}
use Rattle.psi_tables.specs.declared.fault.TableFault.{TableFault}
use Rattle.psi_tables.specs.declared.cue.TooLong.{TooLong}
use Rattle.psi_tables.specs.Association.{Association, pat}
use Rattle.psi_tables.specs.ProgramMap.{ProgramMap, pmt, pmt_section}
use Rattle.psi_tables.specs.Cue.{with_cue_entry, without_cue_entry, section_or_too_long}
use Rattle.psi_section.specs.Assembling.{IsOf}
use Rattle.codec_text.specs.Names.{table_fault_name}
use Rattle.codec_text.specs.Texts.{bytes_text, cue_reading_text, frame_text, message_reading_text, association_text, map_text}
use Rattle.conformance.specs.declared.line.Codec.{Codec}
use Rattle.conformance.specs.declared.line.Codec.TheVariants.{Cue, Message, Table}
use Rattle.conformance.specs.declared.line.Kind.{Kind}
use Rattle.conformance.specs.declared.line.Kind.TheVariants.{Bytes, Sections}
use Rattle.conformance.specs.declared.sections.Found.{Found}
use Rattle.conformance.specs.Lines.{asked}
use Rattle.conformance.specs.Sections.{words_of, packets_in, placed, IsFoundIn}

-- with a line feed
abbrev pub ended : List ℕ → List ℕ
ended text = text ++ 10 ∷ []

-- the answer to a line that says nothing
abbrev pub bad_line : List ℕ
bad_line = ended (codes "bad line")

-- ---- messages

-- the message at the front of these bytes, or what is missing of it
abbrev pub front_text : List ℕ → Frame → List ℕ
front_text bytes (Whole size) = message_reading_text (take size bytes) (message_of (take size bytes))
front_text bytes (NeedMore count) = frame_text (NeedMore count)
front_text bytes BadSize = frame_text BadSize

-- ---- tables

-- what a section is as a program association
abbrev pub pat_text : Result Association TableFault → List ℕ
pat_text (Ok a) = association_text a
pat_text (Err fault) = codes "Pat:" ++ table_fault_name fault

-- a section that was written, where section_length can say its size
abbrev pub added_text : Result (List ℕ) TooLong → List ℕ
added_text (Ok section) = bytes_text section
added_text (Err fault) = codes "TooLong"

-- a program map, and it with the cue entry of PID 0x01F0 added and with it stripped
abbrev pub changes_text : ProgramMap → List ℕ
changes_text m =
    map_text m ++ codes " | add=" ++ added_text (section_or_too_long (with_cue_entry 0x1F0 m))
    ++ codes " | strip=" ++ bytes_text (pmt_section (without_cue_entry 0x1F0 m))

-- what a section is as a program map
abbrev pub pmt_text : Result ProgramMap TableFault → List ℕ
pmt_text (Ok m) = changes_text m
pmt_text (Err fault) = codes "Pmt:" ++ table_fault_name fault

abbrev pub table_text : List ℕ → List ℕ
table_text bytes = pat_text (pat bytes) ++ codes " | " ++ pmt_text (pmt bytes)

-- ---- sections

-- sections behind the places of their packets
abbrev pub sections_text : List (ℕ × List ℕ) → List ℕ
sections_text [] = []
sections_text (section ∷ rest) = codes " " ++ decimal section.0 ++ codes ":" ++ bytes_text section.1 ++ sections_text rest

-- how many failed, and those that did not
abbrev pub found_text : Found → List ℕ
found_text found = codes "bad=" ++ decimal found.bad ++ sections_text (map placed found.finished.items)

-- This answers these packets: of packets of one PID it is what is in that PID. Of packets of several nothing but its form is said.
abbrev pub IsPacketsAnswer : Option (List (List ℕ)) → List ℕ → Type 0
IsPacketsAnswer None text = text ≡ bad_line
IsPacketsAnswer (Some packets) text = (found : Found) × (text ≡ ended (found_text found)) × ((pid : ℕ) → All (IsOf pid) packets → IsFoundIn pid packets found)

-- ---- lines

-- the bytes of a word: those that its digits spell, at least one, or none by `-`
abbrev pub bytes_in : List ℕ → Option (List ℕ)
bytes_in [] = None
bytes_in (c ∷ rest) = if pointwise nat_eq (c ∷ rest) (codes "-") then Some [] else spelled (c ∷ rest)

-- what these bytes are
abbrev pub reading_text : Codec → List ℕ → List ℕ
reading_text Cue bytes = cue_reading_text (cue_of bytes)
reading_text Message bytes = front_text bytes (frame_of bytes)
reading_text Table bytes = table_text bytes

-- the answer to bytes, where the word spells some
abbrev pub bytes_answer : Codec → Option (List ℕ) → List ℕ
bytes_answer codec None = bad_line
bytes_answer codec (Some bytes) = ended (reading_text codec bytes)

-- this answers what a line asks for
abbrev pub IsAnswerTo : Option (Kind × List ℕ) → List ℕ → Type 0
IsAnswerTo None text = text ≡ bad_line
IsAnswerTo (Some (Bytes codec, word)) text = text ≡ bytes_answer codec (bytes_in word)
IsAnswerTo (Some (Sections, words)) text = IsPacketsAnswer (packets_in (words_of words)) text

-- this answers the line
abbrev pub IsAnswer : List ℕ → List ℕ → Type 0
IsAnswer line text = IsAnswerTo (asked line) text
