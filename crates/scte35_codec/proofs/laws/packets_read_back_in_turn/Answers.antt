use Rattle.scte35_codec.proofs.GivenLemmas.{packets_back_in_turn}
use Rattle.scte35_codec.proofs.laws.packets_read_back_in_turn.Goals as goal

pub returns : goal.returns
returns c = packets_back_in_turn
