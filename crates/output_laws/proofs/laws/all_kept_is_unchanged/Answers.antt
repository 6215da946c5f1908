use Rattle.output_laws.proofs.Unchanged.{all_kept_is_unchanged}
use Rattle.output_laws.proofs.laws.all_kept_is_unchanged.Goals as goal

pub returns : goal.returns
returns c = all_kept_is_unchanged
