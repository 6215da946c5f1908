use Rattle.on_air.proofs.MarkLemmas.{quiet}
use Rattle.on_air.proofs.marks.Marks.has_any.Goals as goal

pub returns-clause-judged : goal.returns-clause-judged
returns-clause-judged c = λ purpose past p keeps none sound. quiet c.args.self.now purpose p past keeps none sound
