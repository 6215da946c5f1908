use Rattle.switch_laws.proofs.SoundLemmas.{runs_are_sound}
use Rattle.switch_laws.proofs.laws.runs_are_sound.Goals as goal

pub returns : goal.returns
returns c = runs_are_sound
