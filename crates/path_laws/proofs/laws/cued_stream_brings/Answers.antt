use Rattle.path_laws.proofs.Whole.{cued_stream_brings}
use Rattle.path_laws.proofs.laws.cued_stream_brings.Goals as goal

pub returns : goal.returns
returns c = cued_stream_brings
