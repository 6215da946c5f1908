use Rattle.psi_tables.proofs.laws.read_tables_are_spelled.Goals as goal
use Rattle.psi_tables.proofs.ReadBackLemmas.{map_reads, association_reads}

pub returns : goal.returns
returns c = record { pmt = map_reads; pat = association_reads }
