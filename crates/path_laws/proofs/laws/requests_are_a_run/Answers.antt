use Rattle.path_laws.proofs.Proofs.{requests_are_a_run}
use Rattle.path_laws.proofs.laws.requests_are_a_run.Goals as goal

pub returns : goal.returns
returns c = requests_are_a_run
