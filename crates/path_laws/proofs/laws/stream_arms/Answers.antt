use Rattle.path_laws.proofs.Streams.{stream_arms}
use Rattle.path_laws.proofs.laws.stream_arms.Goals as goal

pub returns : goal.returns
returns c = stream_arms
