use Rattle.std.proofs.Common.{rules, refl}
use Rattle.event_table.proofs.TableLemmas.{kept-stands}
use Rattle.event_table.proofs.table.Table.advance_keeping_all.Goals as goal

pub returns-clause-stands : goal.returns-clause-stands
returns-clause-stands g c = λ latest standing later stands is all.
    kept-stands c.args.self.now _ latest standing c.args.high later (search rules) c.requires stands is refl refl all
