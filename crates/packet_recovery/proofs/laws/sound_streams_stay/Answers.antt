use Rattle.packet_recovery.proofs.MendingLemmas.{stays}
use Rattle.packet_recovery.proofs.laws.sound_streams_stay.Goals as goal

pub returns : goal.returns
returns c = stays
