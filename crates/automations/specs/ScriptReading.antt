-- How far a script is read.
use Rattle.std.specs.Prelude.{◌≡◌, ℕ, ◌+◌, ◌<◌, ◌≤◌, ◌^◌, true, List, [], ◌∷◌, ◌++◌, length, drop, Option, Some, IfSome}
use Rattle.std.specs.List.{list_all}
use Rattle.std.specs.Char.{is_ascii_digit}
use Rattle.std.specs.Str.Parse.{digits_value}
use Rattle.decimal_numbers.specs.Numbers.{number_below}
use Rattle.hex_digits.specs.Digits.{spelled, digit_value}
use Rattle.automations.specs.declared.script.Script.{Script}
use Rattle.automations.specs.declared.script_text.Line.{Line}
use Rattle.automations.specs.declared.script_text.Place.{Place}
use Rattle.automations.specs.declared.script_text.Place.TheVariants.{Start, Number, Bytes, Half}
use Rattle.automations.specs.declared.script_text.Reading.{Reading}
use Rattle.automations.specs.ScriptLines.{ScriptLine, GivesLines, are_sound, lines_from}
use Rattle.automations.specs.ScriptText.{IsScript, SpellsLines}

-- where the last of these lines ends, or from here on where there is none
abbrev pub last_end : ℕ → List Line → ℕ
last_end begin [] = begin
last_end begin (l ∷ ls) = last_end l.end ls

-- the least number of a line behind these
abbrev pub next_line_number : ℕ → List Line → ℕ
next_line_number least [] = least
next_line_number least (l ∷ ls) = next_line_number (l.packet + 1) ls

-- these lines are whole, and so many bytes of one more are there
pub record IsBehind (bytes : List ℕ) (lines : List Line) (count : ℕ) : Type 0 where
  pub sound : are_sound 0 (length bytes) 0 lines ≡ true
  pub size : length bytes ≡ last_end 0 lines + count
  pub few : count ≤ 4096

-- the line has this number
pub record IsInLine (bytes : List ℕ) (lines : List Line) (packet count : ℕ) : Type 0 where
  pub behind : IsBehind bytes lines count
  pub rises : next_line_number 0 lines ≤ packet

-- THE READING stands at this place
abbrev pub IsAt : List ℕ → List Line → Place → Type 0
IsAt bytes lines Start = IsBehind bytes lines 0
IsAt bytes lines (Number number) = IsBehind bytes lines 0
IsAt bytes lines (Bytes packet count) = IsInLine bytes lines packet count
IsAt bytes lines (Half packet count high) = IsInLine bytes lines packet count × (count < 4096)

abbrev pub IsReading : {M : Type 0} → Reading M → Type 0
IsReading r = IsAt r.bytes.items r.lines.items r.place

-- the text is that of whole lines, and this of one more
pub record TextSoFar (bytes : List ℕ) (lines : List Line) (line text : List ℕ) : Type 0 where
  pub whole : List ℕ
  pub text_is : text ≡ whole ++ line
  pub spells : SpellsLines 0 whole (lines_from bytes 0 lines)

-- these are the digits of a number, or the first of them
pub record NumberSoFar (digits : List ℕ) (number : ℕ) : Type 0 where
  pub some : 0 < length digits
  pub all : list_all is_ascii_digit digits ≡ true
  pub value : digits_value 10 digits ≡ number
  pub below : number < 2 ^ 64

-- the text ends with the number of a line, a space, the digits of its bytes so far, and this
pub record BytesSoFar (bytes : List ℕ) (lines : List Line) (packet : ℕ) (last text : List ℕ) : Type 0 where
  pub digits : List ℕ
  pub hex : List ℕ
  pub number : number_below digits (2 ^ 64) ≡ Some packet
  pub spelled_so : spelled hex ≡ Some (drop (last_end 0 lines) bytes)
  pub text_is : TextSoFar bytes lines (digits ++ 32 ∷ (hex ++ last)) text

-- THE TEXT READ SO FAR, where the reading stands at this place
abbrev pub IsTextAt : List ℕ → List Line → Place → List ℕ → Type 0
IsTextAt bytes lines Start text = TextSoFar bytes lines [] text
IsTextAt bytes lines (Number number) text = (digits : List ℕ) × NumberSoFar digits number × TextSoFar bytes lines digits text
IsTextAt bytes lines (Bytes packet count) text = BytesSoFar bytes lines packet [] text
IsTextAt bytes lines (Half packet count high) text =
    (digit : ℕ) × (digit_value digit ≡ Some high) × (high < 16) × BytesSoFar bytes lines packet (digit ∷ []) text

-- THE READING has read this text
pub record IsScriptRead {M : Type 0} (r : Reading M) (text : List ℕ) : Type 0 where
  pub reading : IsReading r
  pub text_is : IsTextAt r.bytes.items r.lines.items r.place text

-- nothing was read between these two
pub record IsSameReading {M : Type 0} (old new : Reading M) : Type 0 where
  pub bytes : new.bytes.items ≡ old.bytes.items
  pub lines : new.lines.items ≡ old.lines.items
  pub place : new.place ≡ old.place

-- WHERE THE READING STOPPED in this text: it stands behind what it has read of it, and the byte that comes next is at fault
pub record StoppedIn {M : Type 0} (r : Reading M) (text : List ℕ) : Type 0 where
  pub read : List ℕ
  pub byte : ℕ
  pub rest : List ℕ
  pub text_is : text ≡ read ++ byte ∷ rest
  pub stands : IsScriptRead r read
  pub bad : r.bad ≡ Some byte

-- THE READING went on from one state to another: what lies before the rest of the text was read
abbrev pub IsReadOn : {M : Type 0} → Reading M → Reading M → List ℕ → List ℕ → Type 0
IsReadOn old new part rest =
    (done : List ℕ) × (part ≡ done ++ rest) × ((text : List ℕ) → IsScriptRead old text → IsScriptRead new (text ++ done))

-- the lines of a reading
abbrev pub read_lines : {M : Type 0} → Reading M → List ScriptLine
read_lines r = lines_from r.bytes.items 0 r.lines.items

-- ALL OF A SCRIPT'S TEXT was read
pub record IsReadWhole {M : Type 0} (r : Reading M) (text : List ℕ) : Type 0 where
  pub behind : IsBehind r.bytes.items r.lines.items 0
  pub script : IsScript text (read_lines r)

-- and these bytes were that text, where they are known
abbrev pub IsReadFrom : {M : Type 0} → Option (List ℕ) → Reading M → Type 0
IsReadFrom source r = (text : List ℕ) × IfSome source (λ bs. bs ≡ text) × IsReadWhole r text

-- THE SCRIPT WAS LOADED from what these bytes were, where they are known: it is that of their lines, and was asked for nothing
pub record IsLoaded {W M : Type 0} (s : Script W M) (source : Option (List ℕ)) : Type 0 where
  pub text : List ℕ
  pub lines : List ScriptLine
  pub known : IfSome source (λ bs. bs ≡ text)
  pub script : IsScript text lines
  pub gives : GivesLines s lines
  pub first : s.packet ≡ 0
