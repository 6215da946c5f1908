-- The answers to all lines of the input.
use Rattle.std.specs.Prelude.{◌≡◌, ℕ, ◌≤◌, length, List, [], ◌∷◌, ◌++◌, Bool, true, false, Option, None, Some, ⊤, IfSome, ◌==◌, if◌then◌else◌}
use Rattle.std.specs.Io.KnownBytes.{Appends}
use Rattle.conformance.specs.Sections.{before_word}
use Rattle.conformance.specs.Answers.{IsAnswer}

-- the lines of a text, without their line feeds; the last one may have none
abbrev pub lines_of : List ℕ → List (List ℕ)
lines_of [] = []
lines_of (c ∷ rest) = if c == 10 then [] ∷ lines_of rest else before_word c (lines_of rest)

-- a line is taken from the front of what is left of the input, or there is none
abbrev pub TakesLine : Option (List ℕ) → Option (List ℕ) → Bool → List ℕ → Type 0
TakesLine None new is_there line = ⊤
TakesLine (Some old) None is_there line = ⊥
TakesLine (Some old) (Some new) true line = lines_of old ≡ line ∷ lines_of new
TakesLine (Some old) (Some new) false line = lines_of old ≡ []

-- the text is an answer to each of these lines, in their order
abbrev pub AreAnswers : List (List ℕ) → List ℕ → Type 0
AreAnswers [] text = text ≡ []
AreAnswers (line ∷ lines) text = (first : List ℕ) × (rest : List ℕ) × IsAnswer line first × AreAnswers lines rest × (text ≡ first ++ rest)

-- the output has grown by the answers to the lines of the input, where both tell their bytes
abbrev pub Answered : Option (List ℕ) → Option (List ℕ) → Option (List ℕ) → Type 0
Answered input old new = IfSome input (λ bytes. (text : List ℕ) × AreAnswers (lines_of bytes) text × Appends old new text)

-- the input has this many lines, where it tells its bytes
abbrev pub HasLines : ℕ → Option (List ℕ) → Type 0
HasLines count input = IfSome input (λ bytes. count ≤ length (lines_of bytes))
