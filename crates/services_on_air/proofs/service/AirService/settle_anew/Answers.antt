use Rattle.services_on_air.specs.Histories.{gone_anew}
use Rattle.services_on_air.proofs.service.AirService.settle_anew.Goals as goal

pub returns-in-Ok-clause-stands : goal.returns-in-Ok-clause-stands
returns-in-Ok-clause-stands g c = λ config ss is begun some. c.settle_first.ensures.stands config ss (c.begin_anew.ensures.stands config ss is begun some)

pub returns-in-Ok-clause-out : goal.returns-in-Ok-clause-out
returns-in-Ok-clause-out g c = λ t gone start ps filed h is_held.
    let begun = c.in-Ok.ensures.out t gone start ps filed h is_held in (c.settle_first.ensures.gone t (gone_anew t gone) begun.0, begun.1)
