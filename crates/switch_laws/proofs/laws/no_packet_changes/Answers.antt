use Rattle.switch_laws.proofs.NoneLemmas.{no_packet_changes}
use Rattle.switch_laws.proofs.laws.no_packet_changes.Goals as goal

pub returns : goal.returns
returns c = no_packet_changes
