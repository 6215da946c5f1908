use Rattle.program_laws.proofs.CuedLemmas.{cued_stream_reads}
use Rattle.program_laws.proofs.laws.cued_stream_reads.Goals as goal

pub returns : goal.returns
returns c = cued_stream_reads
