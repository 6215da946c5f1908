use Rattle.std.proofs.Common.{◌≡◌, length}
use Rattle.psi_section.proofs.SectionsLeftLemmas.{good_of}
use Rattle.psi_section.proofs.sections.SectionsIterator.next.Given as goal

-- what is still to come stays so
abbrev pub invariant-loop-size : goal.invariant-loop-size
invariant-loop-size l = good_of l.self.bytes.now ≡ good_of l.initial.self.bytes.now

abbrev pub decreases-loop-size : goal.decreases-loop-size
decreases-loop-size l = length l.self.bytes.now
