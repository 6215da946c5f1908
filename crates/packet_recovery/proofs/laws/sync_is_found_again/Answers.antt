use Rattle.packet_recovery.proofs.FramingLemmas.{framed-lost}
use Rattle.packet_recovery.proofs.laws.sync_is_found_again.Goals as goal

pub returns : goal.returns
returns c = framed-lost
