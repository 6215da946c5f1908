use Rattle.std.proofs.Common.{refl, [], None}
use Rattle.psi_section.proofs.AssemblerLemmas.{waits_gives}
use Rattle.program_follower.proofs.map_reader.MapReader.new.Goals as goal

pub returns-clause-reads : goal.returns-clause-reads
returns-clause-reads c = λ wanted. record { todo = []; assembler = λ pid. waits_gives c.new.result pid [] (c.new.ensures.waits pid); program = refl }

pub returns-clause-shows : goal.returns-clause-shows
returns-clause-shows c = λ wanted. record { newest_is = refl }

pub invariant_of-result : goal.invariant_of-result
invariant_of-result c = record { judged = c.new-2.ensures None }
