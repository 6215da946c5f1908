use Rattle.random_access.proofs.PointLemmas.{begins_in_order}
use Rattle.random_access.proofs.reader.PointReader.begins.Goals as goal

pub returns : goal.returns
returns c = λ pid ps h. rw (begins_in_order pid ps) h.kept
