use Rattle.std.proofs.Common.{◌≡◌, ◌++◌, length, List, Option, take, drop}
use Rattle.std.specs.Prelude.{ℤ}
use Rattle.pes_time.specs.Line.{place}
use Rattle.event_table.specs.Standing.{Standing}
use Rattle.event_table.specs.Tables.{StandsFor, values_of}
use Rattle.ad_library.specs.Library.{held}
use Rattle.splice_plans.specs.Adverts.{adverts_of}
use Rattle.splice_plans.specs.Turning.{IsNearHigh}
use Rattle.splice_plans.specs.Parts.{KeepsEvents, all_turned}
use Rattle.splice_plans.proofs.turns.turn_all.Given as goal

-- the plans up to here have been turned, and the others not
abbrev pub invariant-loop-at : goal.invariant-loop-at
invariant-loop-at l = record {
  keeps : KeepsEvents l.initial.events l.events;
  size : l.at-end ≡ length l.initial.events.obeyed.table.entries.items;
  values : (latest : Option ℤ) (es : List Standing) → StandsFor l.initial.events.obeyed.table latest es → IsNearHigh latest (place latest l.time)
      → values_of l.events.obeyed.table ≡ take l.at (all_turned (adverts_of (held l.library) l.streams) l.stream (place latest l.time) es (values_of l.initial.events.obeyed.table)) ++ drop l.at (values_of l.initial.events.obeyed.table);
}
