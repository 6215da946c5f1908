use Rattle.scte35_codec.proofs.WrittenLemmas.{cue_back}
use Rattle.scte35_codec.proofs.laws.cues_read_back.Goals as goal

pub returns : goal.returns
returns c = cue_back
