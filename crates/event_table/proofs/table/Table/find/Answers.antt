use Rattle.std.proofs.Common.{◌∙◌}
use Rattle.event_table.proofs.TableLemmas.{place-id}
use Rattle.event_table.proofs.table.Table.find.Goals as goal

pub returns-clause-place : goal.returns-clause-place
returns-clause-place g c = λ latest standing stands. c.place_of.ensures ∙ place-id c.args.self.now latest standing c.args.id stands
