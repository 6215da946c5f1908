use Rattle.std.proofs.Common.{◌≡◌, to_z, of_z, w64, rules}
use Rattle.unit_cut.proofs.DistanceLemmas.{raise_is, place_is}
use Rattle.unit_cut.specs.Standing.{high_or}
use Rattle.unit_cut.proofs.timing.Timing.advance.Goals as goal

pub returns-clause-distance : goal.returns-clause-distance
returns-clause-distance c = λ k high b f d w.
    let i = c.distance_at-distance.ensures k high b f d in
    let way : to_z w64 (of_z w64 c.args.way) ≡ c.args.way = search rules in
    let e = rw way at (c.advance-self.ensures.distance k.begin (high_or high c.args.pts) i) in
    rw (raise_is high c.args.pts, ← w) e

pub returns-clause-going : goal.returns-clause-going
returns-clause-going c = λ k high b f l d w.
    let i = c.distance_at-distance.ensures k high b f d in
    let way : to_z w64 (of_z w64 c.args.way) ≡ c.args.way = search rules in
    let e = rw way at (c.advance-self.ensures.inside k.begin (high_or high c.args.pts) i) in
    rw (place_is high c.args.pts, ← w, l) e
