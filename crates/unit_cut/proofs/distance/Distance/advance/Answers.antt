use Rattle.std.proofs.Common.{◌≡◌, ◌<◌, ◌^◌, negsuc, ◌-◌, ◌≤ℤ◌, ◌+ℤ◌, to_z, of_z, w64, rules, arith, ◌∙◌}
use Rattle.std.proofs.lemmas.Int.{ints}
use Rattle.unit_cut.proofs.DistanceLemmas.{within_is}
use Rattle.unit_cut.proofs.distance.Distance.advance.Goals as goal

pub returns-clause-inside : goal.returns-clause-inside
returns-clause-inside c = λ begin high i.
    let low : negsuc (2 ^ 32 - 1) ≤ℤ c.args.way = omega (arith, ints) in
    let short : c.args.length < 2 ^ 34 = omega arith in
    let at : to_z w64 (of_z w64 c.of-at.result) ≡ c.args.self.now.ticks +ℤ c.args.way = search rules in
    let e = rw at at c.is_within.ensures in
    e ∙ within_is c.args.self.now.ticks c.args.way begin high c.args.length low short i
