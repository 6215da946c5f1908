-- What is counted of the events that are forgotten.
use Rattle.std.specs.Prelude.{ℕ, List, take, ℤ, Option}
use Rattle.psi_tables.specs.declared.stream.Stream.{Stream}
use Rattle.event_table.specs.declared.table.Table.{Table}
use Rattle.event_table.specs.Standing.{Standing}
use Rattle.event_table.specs.Tables.{values_of}
use Rattle.ad_library.specs.Advertisements.{Advertisement}
use Rattle.splice_plans.specs.declared.plan.Plan.{Plan}
use Rattle.splice_plans.specs.Adverts.{adverts_of}
use Rattle.splice_plans.specs.Parts.{beside}
use Rattle.splice_plans.specs.Reporting.{EventCounts, with_counted, is_out_at, is_any}

module _ (filed : ℕ → Option Advertisement) (streams : List Stream) (table : Table Plan) (es : List Standing) where
  -- with the events that are forgotten at this greatest time, of all that stand or of the first so many
  abbrev pub with_out : ℤ → EventCounts → EventCounts
  with_out later counts = with_counted (is_out_at later) (adverts_of filed streams) (beside es (values_of table)) counts

  abbrev pub with_first_out : ℕ → ℤ → EventCounts → EventCounts
  with_first_out many later counts = with_counted (is_out_at later) (adverts_of filed streams) (take many (beside es (values_of table))) counts

  -- with all that stand
  abbrev pub with_standing : EventCounts → EventCounts
  with_standing counts = with_counted is_any (adverts_of filed streams) (beside es (values_of table)) counts
