use Rattle.splice_plans.proofs.PutLemmas.{puts_at_unit_starts}
use Rattle.splice_plans.proofs.laws.puts_at_unit_starts.Goals as goal

pub returns : goal.returns
returns c = puts_at_unit_starts
