use Rattle.event_table.proofs.AdvanceLemmas.{may-advance}
use Rattle.event_table.proofs.laws.no_fault_lets_a_table_advance.Goals as goal

pub returns : goal.returns
returns c = may-advance
