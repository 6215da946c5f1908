use Rattle.std.proofs.Common.{length, ap, ◌∙◌}
use Rattle.std.specs.Prelude.{Some}
use Rattle.program_follower.specs.Program.{known_pids}
use Rattle.injector.specs.Steps.{packets_in}
use Rattle.chain_services.proofs.PartLemmas.{taken_packets}
use Rattle.chain_services.proofs.OwnerLemmas.{counted-listed}
use Rattle.chain_services.proofs.owners.is_listed.Goals as goal

pub returns : goal.returns
returns c = λ t steps h some.
    counted-listed (Some t.config.program) (packets_in steps) c.pid_count.result
    (c.pid_count.ensures t.config h.taken h.stands.injector ∙ ap (λ l. length (known_pids (Some t.config.program) l)) (taken_packets c.args.service.now t steps h)) some
