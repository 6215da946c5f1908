use Rattle.program_laws.proofs.HeadLemmas.{others_are_written}
use Rattle.program_laws.proofs.laws.others_are_written.Goals as goal

pub returns : goal.returns
returns c = others_are_written
