use Rattle.splice_laws.proofs.TableLemmas.{near_is_past_forgotten}
use Rattle.splice_laws.proofs.laws.near_is_past_forgotten.Goals as goal

pub returns : goal.returns
returns c = near_is_past_forgotten
