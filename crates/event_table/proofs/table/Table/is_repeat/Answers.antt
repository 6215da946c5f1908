use Rattle.std.proofs.Common.{◌∙◌}
use Rattle.event_table.proofs.TableLemmas.{any-repeats}
use Rattle.event_table.proofs.table.Table.is_repeat.Goals as goal

pub returns : goal.returns
returns g c = λ latest standing stands. c.has_repeat_of.ensures.found ∙ any-repeats c.args.self.now latest standing c.args.event.now c.has_repeat_of.ensures.start stands
