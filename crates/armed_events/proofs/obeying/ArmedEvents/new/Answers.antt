use Rattle.armed_events.proofs.PastLemmas.{nothing-heard}
use Rattle.armed_events.proofs.obeying.ArmedEvents.new.Goals as goal

pub returns-clause-obeys : goal.returns-clause-obeys
returns-clause-obeys g c = λ pid high is. record { waits = c.new.ensures.waits pid; obeyed = nothing-heard c.new-2.result (high _) is c.new-2.ensures.stands }
