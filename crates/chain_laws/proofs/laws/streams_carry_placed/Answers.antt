use Rattle.chain_laws.proofs.CarriedLemmas.{streams_carry_placed}
use Rattle.chain_laws.proofs.laws.streams_carry_placed.Goals as goal

pub returns : goal.returns
returns c = streams_carry_placed
