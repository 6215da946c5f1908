use Rattle.scte35_codec.proofs.GivenLemmas.{cue_fits}
use Rattle.scte35_codec.proofs.laws.cues_fit_a_packet.Goals as goal

pub returns : goal.returns
returns c = cue_fits
