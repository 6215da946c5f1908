use Rattle.chain_engine.proofs.service.Service.pass_next.Goals as goal

pub returns-in-Some-clause-ok : goal.returns-in-Some-clause-ok
returns-in-Some-clause-ok g c = λ d steps start ps stands is_held. c.go_on.ensures.ok d steps start ps (c.in-Some.ensures.goes_on d steps stands.injector) stands is_held

pub returns-in-Some-clause-airs : goal.returns-in-Some-clause-airs
returns-in-Some-clause-airs g c = λ d steps fed start ps h is_held. c.go_on.ensures.airs d steps fed start ps (c.in-Some.ensures.goes_on d steps h.injector) h is_held

pub returns-in-Some-clause-err : goal.returns-in-Some-clause-err
returns-in-Some-clause-err g c = λ d steps start ps stands is_held. c.go_on.ensures.err d steps start ps (c.in-Some.ensures.goes_on d steps stands.injector) stands is_held
