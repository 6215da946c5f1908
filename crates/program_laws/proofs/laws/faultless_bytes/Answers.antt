use Rattle.program_laws.proofs.FirstFaultLemmas.{faultless_bytes}
use Rattle.program_laws.proofs.laws.faultless_bytes.Goals as goal

pub returns : goal.returns
returns c = faultless_bytes
