use Rattle.program_laws.proofs.WritingLemmas.{written_reads_again}
use Rattle.program_laws.proofs.laws.written_reads_again.Goals as goal

pub returns : goal.returns
returns c = written_reads_again
