use Rattle.std.proofs.Common.{◌≡◌, ◌++◌, length}
use Rattle.break_scripts.specs.Scripts.{lines_of, script_text}
use Rattle.break_scripts.proofs.ScriptLemmas.{text_left}
use Rattle.break_scripts.proofs.script.script_of.Given as goal

-- what is written and what is left are the whole text
abbrev pub invariant-loop-asked : goal.invariant-loop-asked
invariant-loop-asked l = l.text.items ++ text_left l.is_within (lines_of l.index l.number l.rest) ≡ script_text (lines_of l.index 0 l.fn.requests)

abbrev pub decreases-loop-asked : goal.decreases-loop-asked
decreases-loop-asked l = length l.rest
