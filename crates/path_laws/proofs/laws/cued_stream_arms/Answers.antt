use Rattle.path_laws.proofs.Whole.{cued_stream_arms}
use Rattle.path_laws.proofs.laws.cued_stream_arms.Goals as goal

pub returns : goal.returns
returns c = cued_stream_arms
