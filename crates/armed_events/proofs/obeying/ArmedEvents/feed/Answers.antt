use Rattle.std.proofs.Common.{◌≡◌, ◌∷◌, sym, ◌∙◌, subst}
use Rattle.psi_section.specs.Sections.{given}
use Rattle.psi_section.specs.SectionsLeft.{sections_left}
use Rattle.armed_events.specs.Arming.{with_sections, heard}
use Rattle.armed_events.specs.Obeying.{ObeyedFor}
use Rattle.armed_events.specs.Valuing.{AreBeside}
use Rattle.armed_events.proofs.obeying.ArmedEvents.feed.Goals as goal

pub returns-clause-obeys : goal.returns-clause-obeys
returns-clause-obeys g c = λ pid high past of same o.
    let p = c.args.packet.now in
    let g = c.feed.ensures pid past of o.waits in
    let all : sections_left c.sections.result ≡ given pid p past = c.sections.ensures ∙ g.todo_left in
    let taken = c.take_all.ensures.obeyed (high past) (heard pid high past) o.obeyed in
    record {
      waits = c.pass_over.ensures.waits pid (p ∷ past) (given pid p past) g;
      obeyed = subst (λ latest. ObeyedFor c.take_all.new.self latest (heard pid high (p ∷ past))) (sym same)
          (subst (λ ss. ObeyedFor c.take_all.new.self (high past) (with_sections (high past) ss (heard pid high past))) all taken);
    }

pub returns-clause-values : goal.returns-clause-values
returns-clause-values g c = λ pid high past value of same o fresh keeps.
    let p = c.args.packet.now in
    let h = c.feed.ensures pid past of o.waits in
    let all : sections_left c.sections.result ≡ given pid p past = c.sections.ensures ∙ h.todo_left in
    let taken = c.take_all.ensures.values (high past) (heard pid high past) value o.obeyed fresh keeps in
    subst (λ latest. AreBeside c.take_all.new.self value latest (heard pid high (p ∷ past))) (sym same)
    (subst (λ ss. AreBeside c.take_all.new.self value (high past) (with_sections (high past) ss (heard pid high past))) all taken)
