use Rattle.std.proofs.Common.{◌≡◌, ◌++◌}
use Rattle.break_lists.specs.Lists.{text_lines, lines_left, bytes_left, planned_from, refused_from}
use Rattle.break_lists.proofs.list.read_breaks.Given as goal

-- what was planned is the first part, and the rest comes to what is left of both
abbrev pub invariant-loop-left : goal.invariant-loop-left
invariant-loop-left l = record {
  planned : l.planned.items ++ planned_from l.number (lines_left l.left) ≡ planned_from 1 (text_lines l.fn.text);
  refused : refused_from l.number (lines_left l.left) ≡ refused_from 1 (text_lines l.fn.text);
}

abbrev pub decreases-loop-left : goal.decreases-loop-left
decreases-loop-left l = bytes_left l.left
