use Rattle.std.proofs.Common.{refl}
use Rattle.event_table.specs.Standing.{Standing}
use Rattle.psi_section.proofs.AssemblerLemmas.{waits_off}
use Rattle.armed_events.specs.declared.obeying.Obeyed.{Obeyed}
use Rattle.armed_events.specs.Arming.{standing_at, heard}
use Rattle.armed_events.proofs.PastLemmas.{advanced-for, advanced-past, advanced-values}
use Rattle.armed_events.proofs.obeying.ArmedEvents.advance.Goals as goal

pub returns-clause-obeys : goal.returns-clause-obeys
returns-clause-obeys g c = λ pid high p past later off at is o.
    let h = heard pid high past in
    let new : Obeyed g.row.T.Denot = record { table = c.advance.new.self; ignored = c.args.self.now.obeyed.ignored } in
    record {
      waits = waits_off c.args.self.now.assembler pid p past off o.waits;
      obeyed = advanced-past new pid high p past later off is
          (advanced-for c.args.self.now.obeyed new (high past) later c.args.high h o.obeyed c.requires at
          (c.advance.ensures.stands (high past) (standing_at (high past) h.events) later o.obeyed.table at) refl);
    }

pub returns-clause-values : goal.returns-clause-values
returns-clause-values g c = λ pid high p past later value off at is o keeps.
    let h = heard pid high past in
    advanced-values c.args.self.now.obeyed.table c.advance.new.self value pid high p past later c.args.high off o.obeyed.table c.requires at is
    (c.advance.ensures.values (high past) (standing_at (high past) h.events) later (λ (e : Standing). value e.start) o.obeyed.table at keeps)
