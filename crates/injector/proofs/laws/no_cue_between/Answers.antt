use Rattle.injector.proofs.RestLemmas.{no-cue-between}
use Rattle.injector.proofs.laws.no_cue_between.Goals as goal

pub returns : goal.returns
returns c = no-cue-between
