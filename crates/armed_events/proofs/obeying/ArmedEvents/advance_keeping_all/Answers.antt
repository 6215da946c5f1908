use Rattle.std.proofs.Common.{refl, sym, ap, subst, ◌∙◌, List}
use Rattle.std.specs.Prelude.{Some, map}
use Rattle.psi_section.proofs.AssemblerLemmas.{waits_off}
use Rattle.event_table.specs.Standing.{Standing}
use Rattle.event_table.specs.Tables.{StandsFor}
use Rattle.armed_events.specs.declared.obeying.Obeyed.{Obeyed}
use Rattle.armed_events.specs.Arming.{standing_at, heard}
use Rattle.armed_events.specs.Valuing.{values_by}
use Rattle.armed_events.proofs.PastLemmas.{advanced-for, advanced-past, advanced-values}
use Rattle.armed_events.proofs.obeying.ArmedEvents.advance_keeping_all.Goals as goal

pub returns-clause-obeys : goal.returns-clause-obeys
returns-clause-obeys g c = λ pid high p past later off at is all o.
    let h = heard pid high past in
    let new : Obeyed g.row.T.Denot = record { table = c.advance_keeping_all.new.self; ignored = c.args.self.now.obeyed.ignored } in
    record {
      waits = waits_off c.args.self.now.assembler pid p past off o.waits;
      obeyed = advanced-past new pid high p past later off is
          (advanced-for c.args.self.now.obeyed new (high past) later c.args.high h o.obeyed c.requires at
          (subst (λ (es : List Standing). StandsFor new.table (Some later) es) (sym all)
          (c.advance_keeping_all.ensures.stands (high past) (standing_at (high past) h.events) later o.obeyed.table at all)) refl);
    }

pub returns-clause-values : goal.returns-clause-values
returns-clause-values g c = λ pid high p past later value off at is all o keeps.
    advanced-values c.args.self.now.obeyed.table c.advance_keeping_all.new.self value pid high p past later c.args.high off o.obeyed.table c.requires at is
    (ap (λ entries. map (λ entry. entry.value) entries.items) c.advance_keeping_all.ensures.entries ∙ keeps ∙ ap (values_by value) (sym all))
