use Rattle.cue_laws.proofs.Enough.{invariant}
use Rattle.cue_laws.proofs.laws.invariant.Goals as goal

pub returns : goal.returns
returns c = invariant
