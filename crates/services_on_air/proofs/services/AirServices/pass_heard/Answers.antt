use Rattle.std.proofs.Common.{◌∷◌, ◌∙◌}
use Rattle.services_on_air.proofs.services.AirServices.pass_heard.Goals as goal

pub returns-in-Ok-clause-stands : goal.returns-in-Ok-clause-stands
returns-in-Ok-clause-stands g c = λ cs past h many told. c.passed.ensures.stands cs past (c.in-Ok.ensures.stands cs past h many told)

pub returns-in-Ok-clause-out : goal.returns-in-Ok-clause-out
returns-in-Ok-clause-out g c = λ ts past before takes rs start st filed h told is_held.
    let (gone, out) = c.in-Ok.ensures.out ts past before takes rs start st filed h told is_held in
    (c.passed.ensures.gone ts (c.args.next.packet.now ∷ past) takes rs gone, out)

pub returns-in-Ok-clause-talk : goal.returns-in-Ok-clause-talk
returns-in-Ok-clause-talk g c = c.passed.ensures.talk ∙ c.pass_settled.ensures.talk
