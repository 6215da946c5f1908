use Rattle.std.proofs.Common.{◌∷◌, refl, ◌∙◌}
use Rattle.injector.specs.Steps.{Message}
use Rattle.services_on_air.proofs.GoneLemmas.{asked-so}
use Rattle.services_on_air.proofs.service.AirService.ask.Goals as goal

pub returns-clause-stands : goal.returns-clause-stands
returns-clause-stands c = λ p a h.
    let asked = c.ask.ensures in
    record {
      j = h.j;
      past = h.past;
      earlier = h.earlier;
      parts = h.parts;
      config = asked.config ∙ h.config;
      marks = h.marks;
      followed = record { steps = Message _ ∷ h.followed.steps; injector = asked.judged.stands a.config h.followed.steps h.followed.injector; packets = h.followed.packets };
      unjudged = h.unjudged;
      is_empty = h.is_empty;
      shares = h.shares;
      begun = h.begun;
    }

pub returns-clause-gone : goal.returns-clause-gone
returns-clause-gone c = λ t g h. asked-so c.args.self.now _ t g _ c.ask.result c.ask.ensures refl refl refl h
