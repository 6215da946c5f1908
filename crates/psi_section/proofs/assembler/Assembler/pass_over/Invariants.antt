use Rattle.std.proofs.Common.{ℕ, List, length}
use Rattle.psi_section.specs.Storing.{content}
use Rattle.psi_section.specs.Assembling.{StillGives, left}
use Rattle.psi_section.proofs.assembler.Assembler.pass_over.Given as goal

-- what is left is what is still to be given
abbrev pub invariant-loop-size : goal.invariant-loop-size
invariant-loop-size l = (pid : ℕ) (past todo : List (List ℕ)) → StillGives l.initial.self pid past todo → StillGives l.self pid past (left l.self)

abbrev pub decreases-loop-size : goal.decreases-loop-size
decreases-loop-size l = length (content l.self.store)
