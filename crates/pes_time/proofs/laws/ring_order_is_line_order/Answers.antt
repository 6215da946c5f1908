use Rattle.std.proofs.Common.{arith}
use Rattle.std.proofs.lemmas.Int.{ints}
use Rattle.pes_time.proofs.LineLemmas.{signed-near}
use Rattle.pes_time.proofs.laws.ring_order_is_line_order.Goals as goal

pub returns : goal.returns
returns c = λ a b near. record { way = signed-near a b near; earlier = rw signed-near (omega (arith, ints), omega (arith, ints)) }
