use Rattle.program_laws.proofs.FirstFaultLemmas.{few_more_bytes}
use Rattle.program_laws.proofs.laws.few_more_bytes.Goals as goal

pub returns : goal.returns
returns c = few_more_bytes
