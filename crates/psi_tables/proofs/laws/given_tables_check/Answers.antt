use Rattle.psi_tables.proofs.laws.given_tables_check.Goals as goal
use Rattle.psi_tables.proofs.ReadBackLemmas.{map_checks, association_checks}

pub returns : goal.returns
returns c = record { pmt = map_checks; pat = association_checks }
