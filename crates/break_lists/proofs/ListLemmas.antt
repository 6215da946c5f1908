-- A list that is read line by line.
use Rattle.std.proofs.Common.{◌≡◌, ◌≤◌, ℕ, ◌==◌, List, [], ◌∷◌, ◌++◌, length, Option, None, Some, Bor, Result, Ok, Err, refl, sym, ap, ◌∙◌, append_assoc, arith}
use Rattle.std.specs.List.{before_first}
use Rattle.break_lists.specs.Words.{IsCutBehind}
use Rattle.break_lists.specs.Lines.{line_plan}
use Rattle.break_lists.specs.Lists.{text_lines, lines_left, bytes_left, number_behind, with_planned, planned_from, or_refused, refused_from, RefusesList}
use Rattle.break_lists.specs.declared.line.BreakLine.{BreakLine}
use Rattle.break_lists.specs.declared.line.Expected.{Expected}
use Rattle.break_lists.specs.declared.list.NumberedLine.{NumberedLine}
use Rattle.break_lists.specs.declared.list.RefusedLine.{RefusedLine}
use Rattle.break_lists.specs.declared.list.BreaksFault.{BreaksFault}

-- the lines of a text are its first one and the others
pub first_line : (text line : List ℕ) (behind : Option (Bor (List ℕ))) → line ≡ before_first (λ b. b == 10) text → IsCutBehind (λ b. b == 10) text behind
    → (text_lines text ≡ line ∷ lines_left behind) × (bytes_left behind ≤ length text)
first_line text line None e h = (rw e h.2, omega arith)
first_line text line (Some rest) e (found, after, parts, shorter) = (rw e parts, omega (arith, shorter))

planned_alone : (n : ℕ) (r : Result (Option BreakLine) Expected) (rest : List NumberedLine) → with_planned n r [] ++ rest ≡ with_planned n r rest
planned_alone n (Ok (Some l)) rest = refl
planned_alone n (Ok None) rest = refl
planned_alone n (Err e) rest = refl

-- what a line more plans
pub planned_more : (n : ℕ) (done new : List NumberedLine) (line : List ℕ) (ls ms : List (List ℕ)) → ms ≡ line ∷ ls → new ≡ done ++ with_planned n (line_plan line) []
    → new ++ planned_from (number_behind n) ls ≡ done ++ planned_from n ms
unfolding planned_from
planned_more n done new line ls ms same e =
    rw (same, e) (append_assoc done (with_planned n (line_plan line) []) (planned_from (number_behind n) ls)
    ∙ ap (λ x. done ++ x) (planned_alone n (line_plan line) (planned_from (number_behind n) ls)))

passed : (n : ℕ) (r : Result (Option BreakLine) Expected) (rest : Option RefusedLine) → or_refused n r None ≡ None → or_refused n r rest ≡ rest
passed n (Ok l) rest h = refl
passed n (Err e) rest h = absurd (cc)

-- a line that is one leaves the first that is none to the others
pub refused_more : (n : ℕ) (line : List ℕ) (ls ms : List (List ℕ)) → ms ≡ line ∷ ls → or_refused n (line_plan line) None ≡ None
    → refused_from (number_behind n) ls ≡ refused_from n ms
unfolding refused_from
refused_more n line ls ms same h = rw same (sym (passed n (line_plan line) (refused_from (number_behind n) ls) h))

-- and one that is none is the first
pub refused_here : (n : ℕ) (line : List ℕ) (ls ms : List (List ℕ)) (f : BreaksFault) → ms ≡ line ∷ ls
    → RefusesList f (or_refused n (line_plan line) (refused_from (number_behind n) ls)) → RefusesList f (refused_from n ms)
unfolding refused_from
refused_here n line ls ms f same h = rw same h
