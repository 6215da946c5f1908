use Rattle.switch_laws.proofs.MapLemmas.{bytes_go_out}
use Rattle.switch_laws.proofs.laws.bytes_go_out.Goals as goal

pub returns : goal.returns
returns c = bytes_go_out
