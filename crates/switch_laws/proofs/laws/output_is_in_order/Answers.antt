use Rattle.switch_laws.proofs.WholeLemmas.{output_is_in_order}
use Rattle.switch_laws.proofs.laws.output_is_in_order.Goals as goal

pub returns : goal.returns
returns c = output_is_in_order
