use Rattle.injector.specs.Steps.{cued}
use Rattle.chain_engine.proofs.service.Service.finish.Goals as goal

pub returns-clause-ok : goal.returns-clause-ok
returns-clause-ok g c = λ d steps start ps stands is_held. c.finish.ensures.ok start ps d (cued d steps) is_held stands.switch

pub returns-clause-err : goal.returns-clause-err
returns-clause-err g c = λ d steps start ps stands is_held. c.finish.ensures.err start ps d (cued d steps) is_held stands.switch

pub returns-clause-puts : goal.returns-clause-puts
returns-clause-puts g c = λ d x start ps stands is_held. c.finish.ensures.puts start ps d x is_held stands
