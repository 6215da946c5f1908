use Rattle.std.proofs.Common.{refl}
use Rattle.event_table.proofs.TableLemmas.{put-values, put-same_events, same-stands}
use Rattle.event_table.proofs.table.Table.set_value.Goals as goal

pub returns-clause-values : goal.returns-clause-values
returns-clause-values g c = put-values _ _ c.args.place _ c.put.ensures.items

pub returns-clause-events : goal.returns-clause-events
returns-clause-events g c = put-same_events _ _ c.args.place c.entry_at-entry.result _ c.put.ensures.items c.entry_at-entry.ensures refl

pub returns-clause-stands : goal.returns-clause-stands
returns-clause-stands g c = λ latest standing stands.
    same-stands c.args.self.now _ latest standing c.put.ensures.high (put-same_events _ _ c.args.place c.entry_at-entry.result _ c.put.ensures.items c.entry_at-entry.ensures refl) stands
