use Rattle.cue_laws.proofs.Enough.{cued_is_sound}
use Rattle.cue_laws.proofs.laws.cued_is_sound.Goals as goal

pub returns : goal.returns
returns c = cued_is_sound
