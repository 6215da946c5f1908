-- The lines of a list of breaks: what they plan, and the first that is none.
use Rattle.std.specs.Prelude.{◌≡◌, ℕ, ◌+◌, ◌-◌, ◌^◌, ◌==◌, min, List, [], ◌∷◌, length, Option, None, Some, Result, Ok, Err}
use Rattle.std.specs.List.{slice_split}
use Rattle.std.specs.Borrow.{Bor}
use Rattle.break_lists.specs.Lines.{line_plan}
use Rattle.break_lists.specs.declared.line.BreakLine.{BreakLine}
use Rattle.break_lists.specs.declared.line.Expected.{Expected}
use Rattle.break_lists.specs.declared.list.NumberedLine.{NumberedLine}
use Rattle.break_lists.specs.declared.list.RefusedLine.{RefusedLine}
use Rattle.break_lists.specs.declared.list.BreaksFault.{BreaksFault}
use Rattle.break_lists.specs.declared.list.BreaksFault.TheVariants.{Line, OutOfMemory}

-- THE LINES of a text: what stands between line feeds
abbrev pub text_lines : List ℕ → List (List ℕ)
text_lines text = slice_split (λ b. b == 10) text

-- those of the text that is left, where some is
abbrev pub lines_left : Option (Bor (List ℕ)) → List (List ℕ)
lines_left None = []
lines_left (Some text) = text_lines text.now

-- the bytes that are left, with the end of the text counted as one
abbrev pub bytes_left : Option (Bor (List ℕ)) → ℕ
bytes_left None = 0
bytes_left (Some text) = length text.now + 1

-- the number behind this one; it stops at the greatest of 64 bits
abbrev pub number_behind : ℕ → ℕ
number_behind n = min (n + 1) (2 ^ 64 - 1)

-- what a line plans, before what the others do
abbrev pub with_planned : ℕ → Result (Option BreakLine) Expected → List NumberedLine → List NumberedLine
with_planned n (Ok (Some l)) rest = record { number = n; line = l } ∷ rest
with_planned n (Ok None) rest = rest
with_planned n (Err e) rest = rest

-- WHAT THE LINES PLAN, from this number on
unfoldable pub planned_from : ℕ → List (List ℕ) → List NumberedLine
planned_from n [] = []
planned_from n (l ∷ ls) = with_planned n (line_plan l) (planned_from (number_behind n) ls)

-- a line that is none, or else what the others come to
abbrev pub or_refused : ℕ → Result (Option BreakLine) Expected → Option RefusedLine → Option RefusedLine
or_refused n (Err e) rest = Some (record { number = n; expected = e })
or_refused n (Ok l) rest = rest

-- THE FIRST LINE THAT IS NONE, from this number on
unfoldable pub refused_from : ℕ → List (List ℕ) → Option RefusedLine
refused_from n [] = None
refused_from n (l ∷ ls) = or_refused n (line_plan l) (refused_from (number_behind n) ls)

-- a list is not read because of this line, or for want of memory
abbrev pub RefusesList : BreaksFault → Option RefusedLine → Type 0
RefusesList (Line l) refused = refused ≡ Some l
RefusesList OutOfMemory refused = Unit {0}
