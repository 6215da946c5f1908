use Rattle.std.proofs.Common.{rules, ◌≡◌, [], sym, ap, ◌∙◌, subst}
use Rattle.event_table.specs.Tables.{values_of}
use Rattle.psi_section.specs.SectionsLeft.{sections_left}
use Rattle.armed_events.specs.Arming.{with_section, with_sections}
use Rattle.armed_events.specs.Obeying.{ObeyedFor}
use Rattle.armed_events.specs.Valuing.{AreBeside}
use Rattle.armed_events.proofs.ValueLemmas.{adds-more}
use Rattle.armed_events.proofs.obeying.Obeyed.take_all.Goals as goal

pub returns-clause-obeyed : goal.returns-clause-obeyed
returns-clause-obeyed g c = λ latest heard o.
    let i = c.loop-section.invariant.obeyed latest heard o in
    let all : sections_left c.loop-section.section-iterator ≡ [] = c.in-None.ensures.steps.0 in
    subst (λ h. ObeyedFor c.loop-section.self latest h) (sym (ap (λ ss. with_sections latest ss i.0) all) ∙ i.2) i.1

pub returns-clause-values : goal.returns-clause-values
returns-clause-values g c = λ latest heard value o fresh beside.
    let i = c.loop-section.invariant.values latest heard value o fresh beside in
    let all : sections_left c.loop-section.section-iterator ≡ [] = c.in-None.ensures.steps.0 in
    subst (λ h. AreBeside c.loop-section.self value latest h) (sym (ap (λ ss. with_sections latest ss i.0) all) ∙ i.3) i.2

pub loop-section-preserved : goal.loop-section-preserved
loop-section-preserved g c = record {
  obeyed = λ latest heard o.
      let i = c.loop-section.invariant.obeyed latest heard o in
      (with_section latest c.in-Some.section.now i.0, c.take.ensures.obeyed latest i.0 i.1, search rules);
  values = λ latest heard value o fresh beside.
      let i = c.loop-section.invariant.values latest heard value o fresh beside in
      (with_section latest c.in-Some.section.now i.0, c.take.ensures.obeyed latest i.0 i.1, c.take.ensures.values latest i.0 value i.1 fresh i.2, search rules);
  added = adds-more c.args.fresh (values_of c.args.self.now.table) (values_of c.loop-section.self.table) (values_of c.take.new.self.table) c.loop-section.invariant.added c.take.ensures.added;
  high = c.take.ensures.high ∙ c.loop-section.invariant.high;
}
