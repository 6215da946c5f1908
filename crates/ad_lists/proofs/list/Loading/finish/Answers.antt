use Rattle.ad_lists.proofs.ListLemmas.{stops_end, stands_end}
use Rattle.ad_lists.proofs.list.Loading.finish.Goals as goal

pub returns-in-Err-clause-stops : goal.returns-in-Err-clause-stops
returns-in-Err-clause-stops g c = λ text h. stops_end c.args.self.now c.in-Err.fault text h (c.in-Err.ensures.stops h.before h.filed)

pub returns-in-Err-clause-stands : goal.returns-in-Err-clause-stands
returns-in-Err-clause-stands g c = λ text h. stands_end c.args.self.now c.load_line.new.self text c.load_line.ensures.line c.load_line.ensures.number h
