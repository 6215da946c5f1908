use Rattle.std.proofs.Common.{◌≡◌, ◌^◌, rules, pos, ◌+ℤ◌, to_z, of_z, w64}
use Rattle.std.specs.Int.{int_min}
use Rattle.unit_cut.proofs.DistanceLemmas.{raised}
use Rattle.unit_cut.proofs.distance.Distance.raise.Goals as goal

pub returns-then-way-gt0 : goal.returns-then-way-gt0
returns-then-way-gt0 c = λ begin high i.
    let far : to_z w64 (of_z w64 c.min-self.result) ≡ int_min (c.args.self.now.ticks +ℤ c.args.way) (pos (2 ^ 40)) = search rules in
    raised c.args.self.now.ticks c.args.way _ begin high (search rules) far i
