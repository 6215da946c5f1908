use Rattle.std.proofs.Common.{◌≡◌, ℤ, Option}
use Rattle.event_table.specs.Tables.{high_time_of, values_of}
use Rattle.psi_section.specs.SectionsLeft.{sections_left}
use Rattle.armed_events.specs.Arming.{Heard, with_sections}
use Rattle.armed_events.specs.Obeying.{ObeyedFor}
use Rattle.armed_events.specs.Valuing.{IsFreshAhead, AddsOnly, AreBeside}
use Rattle.armed_events.proofs.obeying.Obeyed.take_all.Given as goal

-- what is still to come brings it to the same
abbrev pub invariant-loop-section : goal.invariant-loop-section
invariant-loop-section g l = record {
  obeyed : (latest : Option ℤ) (heard : Heard) → ObeyedFor l.initial.self latest heard →
      (now : Heard) × ObeyedFor l.self latest now × (with_sections latest (sections_left l.section-iterator) now ≡ with_sections latest (sections_left l.fn.sections) heard);
  values : (latest : Option ℤ) (heard : Heard) (value : ℤ → g.row.T.Denot) → ObeyedFor l.initial.self latest heard → IsFreshAhead value latest l.fn.fresh → AreBeside l.initial.self value latest heard →
      (now : Heard) × ObeyedFor l.self latest now × AreBeside l.self value latest now × (with_sections latest (sections_left l.section-iterator) now ≡ with_sections latest (sections_left l.fn.sections) heard);
  added : AddsOnly l.fn.fresh (values_of l.initial.self.table) (values_of l.self.table);
  high : high_time_of l.self.table ≡ high_time_of l.initial.self.table;
}
