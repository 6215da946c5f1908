use Rattle.psi_tables.proofs.laws.put_maps_read_back.Goals as goal
use Rattle.psi_tables.proofs.ReadBackLemmas.{put_reads_back}

pub returns : goal.returns
returns c = put_reads_back
