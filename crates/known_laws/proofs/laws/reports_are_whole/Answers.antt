use Rattle.known_laws.proofs.ReportLemmas.{reports_are_whole}
use Rattle.known_laws.proofs.laws.reports_are_whole.Goals as goal

pub returns : goal.returns
returns c = reports_are_whole
