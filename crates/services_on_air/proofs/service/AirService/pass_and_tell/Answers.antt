use Rattle.std.proofs.Common.{refl, ◌∙◌}
use Rattle.services_on_air.proofs.ServiceLemmas.{leaves-is, learns-is}
use Rattle.services_on_air.proofs.service.AirService.pass_and_tell.Goals as goal

pub returns-in-Ok-clause-stands : goal.returns-in-Ok-clause-stands
returns-in-Ok-clause-stands g c = λ a h own known.
    let stands = c.in-Ok.ensures.stands a h in (
      stands,
      record {
        own = own;
        unjudged = c.pass_to.ensures.unjudged ∙ leaves-is c.args.self.now c.args.packet.now a h;
        learns = learns-is a c.args.known c.pid_count.result stands.followed.steps known (c.pid_count.ensures a.config stands.followed.steps stands.followed.injector) stands.followed.packets;
      },
    )

pub returns-in-Ok-clause-out : goal.returns-in-Ok-clause-out
returns-in-Ok-clause-out g c = λ t gone start ps filed h is_held. let both = c.in-Ok.ensures.out t gone start ps filed h is_held in (refl, both.0, both.1)
