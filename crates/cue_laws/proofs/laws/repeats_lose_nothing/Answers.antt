use Rattle.cue_laws.proofs.Repeats.{repeats_lose_nothing}
use Rattle.cue_laws.proofs.laws.repeats_lose_nothing.Goals as goal

pub returns : goal.returns
returns c = repeats_lose_nothing
