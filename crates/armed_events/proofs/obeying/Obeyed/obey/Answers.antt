use Rattle.event_table.specs.Tables.{values_of}
use Rattle.armed_events.proofs.ValueLemmas.{adds-none}
use Rattle.armed_events.proofs.obeying.Obeyed.obey.Goals as goal

pub returns-in-End-clause-added : goal.returns-in-End-clause-added
returns-in-End-clause-added g c = adds-none c.args.fresh (values_of c.args.self.now.table) (values_of c.end.new.self.table) c.end.ensures.kept

pub returns-in-Cancel-clause-added : goal.returns-in-Cancel-clause-added
returns-in-Cancel-clause-added g c = adds-none c.args.fresh (values_of c.args.self.now.table) (values_of c.cancel.new.self.table) c.cancel.ensures.kept
