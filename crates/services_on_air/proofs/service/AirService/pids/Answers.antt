use Rattle.std.proofs.Common.{Some, ap, ◌∙◌}
use Rattle.program_follower.specs.Program.{known_pids}
use Rattle.services_on_air.proofs.service.AirService.pids.Goals as goal

pub returns : goal.returns
returns c = λ a h. c.pids.ensures a.config h.followed.steps h.followed.injector ∙ ap (known_pids (Some a.config.program)) h.followed.packets
