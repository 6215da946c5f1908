use Rattle.std.proofs.Common.{◌∙◌, sym, ap, length}
use Rattle.chain_services.proofs.BeginLemmas.{configs_are, as_many}
use Rattle.chain_services.specs.Serving.{services_in}
use Rattle.event_tests.proofs.runs.pass.Goals as goal

pub services_told-requires-clause-libraries : goal.services_told-requires-clause-libraries
services_told-requires-clause-libraries c =
    ap length (sym (configs_are c.in-Ok-new.services _ c.in-Ok-new.ensures.ok)) ∙ as_many (services_in c.in-Ok-new.services.desk)
