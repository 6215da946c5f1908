use Rattle.path_laws.proofs.Packets.{sections_read_back}
use Rattle.path_laws.proofs.laws.sections_read_back.Goals as goal

pub returns : goal.returns
returns c = sections_read_back
