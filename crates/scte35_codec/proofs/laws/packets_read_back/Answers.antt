use Rattle.scte35_codec.proofs.GivenLemmas.{packet_back}
use Rattle.scte35_codec.proofs.laws.packets_read_back.Goals as goal

pub returns : goal.returns
returns c = packet_back
