-- Where the text of a script asks for memory, and where its reading stands if that is refused: in a text with which nothing is wrong so far.
use Rattle.std.specs.Prelude.{◌≡◌, ◌⊎◌, ℕ, ◌<◌, List, ◌∷◌, ◌++◌, IsSome}
use Rattle.hex_digits.specs.Digits.{digit_value}
use Rattle.automations.specs.declared.script_text.Place.{Place}
use Rattle.automations.specs.declared.script_text.Place.TheVariants.{Start, Number, Bytes, Half}
use Rattle.automations.specs.declared.script_text.Reading.{Reading}
use Rattle.automations.specs.ScriptReading.{IsScriptRead}

-- MEMORY IS ASKED FOR at the second digit of a byte, and at the end of a line that has bytes
abbrev pub AsksMemory : Place → ℕ → Type 0
AsksMemory Start byte = ⊥
AsksMemory (Number number) byte = ⊥
AsksMemory (Bytes packet count) byte = (byte ≡ 10) × (0 < count)
AsksMemory (Half packet count high) byte = IsSome (digit_value byte)

-- and at the end of the text for a line that has bytes
abbrev pub AsksForLine : Place → Type 0
AsksForLine Start = ⊥
AsksForLine (Number number) = ⊥
AsksForLine (Bytes packet count) = 0 < count
AsksForLine (Half packet count high) = ⊥

-- MEMORY WAS REFUSED in this text: the reading stands behind what it has read of it, and for the byte that comes next memory is asked
pub record RefusedAt {M : Type 0} (r : Reading M) (text : List ℕ) : Type 0 where
  pub read : List ℕ
  pub byte : ℕ
  pub rest : List ℕ
  pub text_is : text ≡ read ++ byte ∷ rest
  pub stands : IsScriptRead r read
  pub asks : AsksMemory r.place byte

-- or it was at its end
pub record RefusedAtEnd {M : Type 0} (r : Reading M) (text : List ℕ) : Type 0 where
  pub stands : IsScriptRead r text
  pub asks : AsksForLine r.place

abbrev pub LacksMemory : {M : Type 0} → Reading M → List ℕ → Type 0
LacksMemory r text = RefusedAt r text ⊎ RefusedAtEnd r text
