use Rattle.packet_recovery.proofs.FramingLemmas.{framed-short}
use Rattle.packet_recovery.proofs.laws.parts_hold_none.Goals as goal

pub returns : goal.returns
returns c = framed-short
