use Rattle.std.proofs.Common.{◌≤◌, arith}
use Rattle.std.specs.Int.Count.{count_trailing_zeros}
use Rattle.chain_services.proofs.ShiftLemmas.{shifted-by}
use Rattle.chain_services.proofs.owners.shift_of.Goals as goal

pub returns-clause-shifted : goal.returns-clause-shifted
returns-clause-shifted c =
    let least : c.min-count.result ≤ count_trailing_zeros 8 c.args.takers = omega (arith, c.min-count.ensures) in
    shifted-by 8 c.min-count.result c.args.takers least
