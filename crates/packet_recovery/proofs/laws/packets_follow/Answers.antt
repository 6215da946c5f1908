use Rattle.packet_recovery.proofs.FramingLemmas.{framed-next}
use Rattle.packet_recovery.proofs.laws.packets_follow.Goals as goal

pub returns : goal.returns
returns c = framed-next
