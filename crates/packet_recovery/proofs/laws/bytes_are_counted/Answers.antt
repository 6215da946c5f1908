use Rattle.packet_recovery.proofs.FramingLemmas.{counted}
use Rattle.packet_recovery.proofs.laws.bytes_are_counted.Goals as goal

pub returns : goal.returns
returns c = counted
