use Rattle.path_laws.proofs.Whole.{cue_path_in_packets_at_the_end}
use Rattle.path_laws.proofs.laws.cue_path_in_packets_at_the_end.Goals as goal

pub returns : goal.returns
returns c = cue_path_in_packets_at_the_end
