use Rattle.psi_section.specs.Assembling.{left}
use Rattle.psi_section.specs.SectionsLeft.{sections_left}
use Rattle.program_follower.proofs.PatLemmas.{JudgingPats}
use Rattle.program_follower.proofs.pat_reader.PatReader.judged.Given as goal

abbrev pub invariant-loop-section : goal.invariant-loop-section
invariant-loop-section l = JudgingPats l.purpose l.self.listed (left l.self.assembler) l.listed (sections_left l.section-iterator)
