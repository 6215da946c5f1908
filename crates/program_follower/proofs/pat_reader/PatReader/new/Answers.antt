use Rattle.std.proofs.Common.{refl, []}
use Rattle.psi_section.proofs.AssemblerLemmas.{waits_gives}
use Rattle.program_follower.proofs.pat_reader.PatReader.new.Goals as goal

pub returns : goal.returns
returns c = λ wanted. record { todo = []; assembler = waits_gives c.new.result 0 [] (c.new.ensures.waits 0); listed_is = refl }
