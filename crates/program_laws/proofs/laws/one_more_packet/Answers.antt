use Rattle.program_laws.proofs.FirstFaultLemmas.{one_more_packet}
use Rattle.program_laws.proofs.laws.one_more_packet.Goals as goal

pub returns : goal.returns
returns c = one_more_packet
