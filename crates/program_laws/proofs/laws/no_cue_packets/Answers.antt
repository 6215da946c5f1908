use Rattle.program_laws.proofs.FaultLemmas.{no_cue_packets}
use Rattle.program_laws.proofs.laws.no_cue_packets.Goals as goal

pub returns : goal.returns
returns c = no_cue_packets
