-- Which text is a script: its lines, each with the number of a packet and the bytes that come before it.
use Rattle.std.specs.Prelude.{◌≡◌, ◌⊎◌, ℕ, ◌+◌, ◌<◌, ◌≤◌, ◌^◌, List, [], ◌∷◌, ◌++◌, length, Some}
use Rattle.decimal_numbers.specs.Numbers.{number_below}
use Rattle.hex_digits.specs.Digits.{spelled}
use Rattle.automations.specs.ScriptLines.{ScriptLine}

-- THE TEXT OF A LINE: the digits of its number, which is below 2 ^ 64, a space, and those of 1 to 4,096 bytes, two for each
pub record IsLine (text : List ℕ) (line : ScriptLine) : Type 0 where
  pub digits : List ℕ
  pub hex : List ℕ
  pub text_is : text ≡ digits ++ 32 ∷ hex
  pub number : number_below digits (2 ^ 64) ≡ Some line.packet
  pub bytes : spelled hex ≡ Some line.bytes
  pub some : 0 < length line.bytes
  pub few : length line.bytes ≤ 4096

-- the text is that of these lines, each with a line feed behind it; their numbers rise, from this one on
abbrev pub SpellsLines : ℕ → List ℕ → List ScriptLine → Type 0
SpellsLines least text [] = text ≡ []
SpellsLines least text (l ∷ ls) =
    (least ≤ l.packet) × (first : List ℕ) × (rest : List ℕ) × (text ≡ first ++ 10 ∷ rest) × IsLine first l × SpellsLines (l.packet + 1) rest ls

-- THE TEXT OF A SCRIPT of these lines; the line feed behind the last one may be missing
abbrev pub IsScript : List ℕ → List ScriptLine → Type 0
IsScript text lines = SpellsLines 0 text lines ⊎ SpellsLines 0 (text ++ 10 ∷ []) lines

-- no script begins with this text
abbrev pub BeginsNoScript : List ℕ → Type 0
BeginsNoScript text = (more : List ℕ) (lines : List ScriptLine) → SpellsLines 0 (text ++ more) lines → ⊥

-- this text is no script
abbrev pub IsNoScript : List ℕ → Type 0
IsNoScript text = (lines : List ScriptLine) → IsScript text lines → ⊥
