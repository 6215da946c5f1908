use Rattle.std.proofs.Common.{◌∙◌}
use Rattle.event_table.proofs.TableLemmas.{any-has_id}
use Rattle.event_table.proofs.table.Table.has_id.Goals as goal

pub returns : goal.returns
returns g c = λ latest standing stands. c.has_entry_of.ensures ∙ any-has_id c.args.self.now latest standing c.args.id stands
