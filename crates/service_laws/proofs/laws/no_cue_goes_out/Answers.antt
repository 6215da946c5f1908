use Rattle.service_laws.proofs.IsolationLemmas.{no_cue_goes_out}
use Rattle.service_laws.proofs.laws.no_cue_goes_out.Goals as goal

pub returns : goal.returns
returns c = no_cue_goes_out
