use Rattle.scte104_codec.proofs.GrammarLemmas.{reads_back}
use Rattle.scte104_codec.proofs.laws.messages_read_back.Goals as goal

pub returns : goal.returns
returns c = reads_back
