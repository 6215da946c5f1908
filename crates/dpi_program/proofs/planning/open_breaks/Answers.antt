use Rattle.std.proofs.Common.{Some, rules}
use Rattle.dpi_program.proofs.planning.open_breaks.Goals as goal

pub returns-in_ok-breaks_from-in-Ok-clause-read : goal.returns-in_ok-breaks_from-in-Ok-clause-read
returns-in_ok-breaks_from-in-Ok-clause-read g c = (Some c.in-Ok.file, search rules, c.in_ok-breaks_from-in-Ok.ensures)
