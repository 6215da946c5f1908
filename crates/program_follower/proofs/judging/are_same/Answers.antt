use Rattle.std.proofs.lemmas.Slice.Eq.{slice_eq-Decides}
use Rattle.psi_tables.proofs.SwitchedLemmas.{stream_decides}
use Rattle.program_follower.proofs.JudgingLemmas.{same_by_test}
use Rattle.program_follower.proofs.judging.are_same.Goals as goal

pub returns : goal.returns
returns c = same_by_test c.eq.result c.args.streams.now c.args.others.now (slice_eq-Decides stream_decides c.args.streams.now c.args.others.now c.eq.result c.eq.ensures)
