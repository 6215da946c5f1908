use Rattle.std.proofs.Common.{ℕ, ◌∷◌}
use Rattle.program_follower.proofs.StreamLemmas.{is_one}
use Rattle.unit_stream.specs.Times.{high}
use Rattle.program_follower.proofs.starts.Starts.high_behind.Goals as goal

pub returns : goal.returns
returns c = λ ps p past of h.
    let x : ℕ × ℕ = (c.args.of.stream, of.0) in
    c.high.ensures (high ps (p ∷ past)) (c.passed.ensures ps x.1 p past (is_one ps p past x of.1.0) of.1.1 h.clock)
