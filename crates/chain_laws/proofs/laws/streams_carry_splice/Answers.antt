use Rattle.chain_laws.proofs.CarriedLemmas.{streams_carry_splice}
use Rattle.chain_laws.proofs.laws.streams_carry_splice.Goals as goal

pub returns : goal.returns
returns c = streams_carry_splice
