use Rattle.ad_library.proofs.SliceLemmas.{shorter_is_filter}
use Rattle.ad_library.proofs.laws.shorter_is_filter.Goals as goal

pub returns : goal.returns
returns c = shorter_is_filter
