use Rattle.std.proofs.Common.{◌≡◌, subst}
use Rattle.program_follower.specs.Known.{known_seen, IsFaultless}
use Rattle.program_follower.proofs.map_reader.MapReader.copied.Goals as goal
use Rattle.program_follower.proofs.map_reader.MapReader.copied.Goals.{in-None, in-Some}

pub invariant_of-result : goal.invariant_of-result
invariant_of-result c =
    let was = c.args.self.now in
    let same : known_seen was.known ≡ known_seen c.match-self.known = elim c.match-self.branch [
      | in-None w ↦ cc
      | in-Some w ↦ cc
    ] in
    record { judged = subst (IsFaultless c.copied-3.result) same (c.copied-3.ensures (known_seen was.known) was.judged) }
