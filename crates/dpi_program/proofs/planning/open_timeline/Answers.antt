use Rattle.std.proofs.Common.{Some, rules}
use Rattle.dpi_program.proofs.planning.open_timeline.Goals as goal

pub returns-in_ok-timeline_from-in-Ok : goal.returns-in_ok-timeline_from-in-Ok
returns-in_ok-timeline_from-in-Ok g c = (Some c.in-Ok.file, search rules, c.in_ok-timeline_from-in-Ok.ensures)
