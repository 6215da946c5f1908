use Rattle.std.proofs.Common.{List, Option, take}
use Rattle.std.specs.Prelude.{ℤ}
use Rattle.event_table.specs.Rings.{CanAdvance}
use Rattle.event_table.specs.Standing.{Standing, IsTimeAt}
use Rattle.event_table.specs.Tables.{StandsFor, high_time_of, values_of}
use Rattle.ad_library.specs.Library.{held}
use Rattle.splice_plans.specs.Adverts.{adverts_of}
use Rattle.splice_plans.specs.Parts.{beside}
use Rattle.splice_plans.specs.Reporting.{EventCounts, ReportIs, with_counted, is_out_at}
use Rattle.splice_playing.proofs.forgetting.with_forgotten.Given as goal

-- those of the events up to here that are forgotten are counted
abbrev pub invariant-loop-at : goal.invariant-loop-at
invariant-loop-at l = (latest : Option ℤ) (later : ℤ) (es : List Standing) (counts : EventCounts) → StandsFor l.table latest es → CanAdvance (high_time_of l.table) l.high → IsTimeAt latest l.high later
    → ReportIs l.initial.counted counts
    → ReportIs l.counted (with_counted (is_out_at later) (adverts_of (held l.library) l.streams) (take l.at (beside es (values_of l.table))) counts)
