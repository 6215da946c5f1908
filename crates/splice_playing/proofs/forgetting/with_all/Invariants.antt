use Rattle.std.proofs.Common.{List, Option, take}
use Rattle.std.specs.Prelude.{ℤ}
use Rattle.event_table.specs.Standing.{Standing}
use Rattle.event_table.specs.Tables.{StandsFor, values_of}
use Rattle.ad_library.specs.Library.{held}
use Rattle.splice_plans.specs.Adverts.{adverts_of}
use Rattle.splice_plans.specs.Parts.{beside}
use Rattle.splice_plans.specs.Reporting.{EventCounts, ReportIs, with_counted, is_any}
use Rattle.splice_playing.proofs.forgetting.with_all.Given as goal

-- the events up to here are counted
abbrev pub invariant-loop-at : goal.invariant-loop-at
invariant-loop-at l = (latest : Option ℤ) (es : List Standing) (counts : EventCounts) → StandsFor l.table latest es → ReportIs l.initial.counted counts
    → ReportIs l.counted (with_counted is_any (adverts_of (held l.library) l.streams) (take l.at (beside es (values_of l.table))) counts)
