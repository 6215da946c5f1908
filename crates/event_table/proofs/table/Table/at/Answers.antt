use Rattle.std.proofs.Common.{◌∙◌, rules}
use Rattle.event_table.proofs.TableLemmas.{find-covers}
use Rattle.event_table.proofs.table.Table.at.Goals as goal

pub returns-clause-place : goal.returns-clause-place
returns-clause-place g c = λ latest standing stands. c.first_over.ensures ∙ find-covers c.args.self.now latest standing c.args.time (search rules) stands
