use Rattle.break_scripts.proofs.LineLemmas.{stand_before}
use Rattle.break_scripts.proofs.laws.messages_stand_before_their_packets.Goals as goal

pub returns : goal.returns
returns c = stand_before
