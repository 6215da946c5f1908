use Rattle.std.proofs.Common.{refl}
use Rattle.unit_stream.proofs.starts.StartReader.new.Goals as goal

pub returns : goal.returns
returns c = record { same = refl; follows = c.new.ensures c.null.result }
