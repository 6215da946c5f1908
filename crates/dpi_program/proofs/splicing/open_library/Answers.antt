use Rattle.std.proofs.Common.{Some, rules}
use Rattle.dpi_program.proofs.splicing.open_library.Goals as goal

pub returns-in_ok-library_from-in-Ok-clause-loaded :
    goal.returns-in_ok-library_from-in-Ok-clause-loaded
returns-in_ok-library_from-in-Ok-clause-loaded g c = (Some c.in-Ok.file, search rules, c.in_ok-library_from-in-Ok.ensures.loaded)
