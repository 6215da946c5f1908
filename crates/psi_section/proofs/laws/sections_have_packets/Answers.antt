use Rattle.psi_section.proofs.laws.sections_have_packets.Goals as goal
use Rattle.psi_section.proofs.RunLemmas.{have_packets}

pub returns : goal.returns
returns c = have_packets
