use Rattle.pes_time.proofs.ReadLemmas.{more_reads_the_same}
use Rattle.pes_time.proofs.laws.more_bytes_read_the_same.Goals as goal

pub returns : goal.returns
returns c = more_reads_the_same
