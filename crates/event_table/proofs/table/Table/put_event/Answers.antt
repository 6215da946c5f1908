use Rattle.std.proofs.Common.{refl}
use Rattle.event_table.proofs.TableLemmas.{put-events, put-same_values}
use Rattle.event_table.proofs.table.Table.put_event.Goals as goal

pub returns-clause-events : goal.returns-clause-events
returns-clause-events g c = put-events _ _ c.args.place _ c.put.ensures.items

pub returns-clause-values : goal.returns-clause-values
returns-clause-values g c = put-same_values _ _ c.args.place c.entry_at-entry.result _ c.put.ensures.items c.entry_at-entry.ensures refl
