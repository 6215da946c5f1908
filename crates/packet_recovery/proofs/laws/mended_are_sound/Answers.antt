use Rattle.packet_recovery.proofs.MendingLemmas.{sound}
use Rattle.packet_recovery.proofs.laws.mended_are_sound.Goals as goal

pub returns : goal.returns
returns c = sound
