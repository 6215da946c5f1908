use Rattle.std.proofs.Common.{arith}
use Rattle.std.proofs.lemmas.Int.{ints}
use Rattle.pes_time.proofs.LineLemmas.{signed-near}
use Rattle.event_table.proofs.TimeLemmas.{near-window}
use Rattle.event_table.proofs.EventLemmas.{compared-window}
use Rattle.event_table.proofs.laws.ring_order_is_line_order_in_a_table.Goals as goal

pub returns : goal.returns
returns g c = λ high standing stands a b ca cb.
    let near = near-window high a b (compared-window high standing a stands.within ca) (compared-window high standing b stands.within cb) in
    record { way = signed-near a b near; earlier = rw (signed-near a b near) (omega (arith, ints), omega (arith, ints)) }
