use Rattle.std.proofs.Common.{Some, rules}
use Rattle.dpi_program.proofs.serving.open_services.Goals as goal

-- the services are those of the file that was opened
pub returns-in_ok-services_from-in-Ok-clause-loaded :
    goal.returns-in_ok-services_from-in-Ok-clause-loaded
returns-in_ok-services_from-in-Ok-clause-loaded g c = (Some c.in-Ok.file, search rules, c.in_ok-services_from-in-Ok.ensures.loaded)
