use Rattle.std.proofs.Common.{refl}
use Rattle.unit_stream.proofs.reader.UnitFollower.new.Goals as goal

pub returns : goal.returns
returns c = λ kept. record { same = refl; follows = c.new.ensures kept; begun = refl }
