use Rattle.std.proofs.Common.{refl}
use Rattle.ad_lists.proofs.ListLemmas.{nothing_read}
use Rattle.ad_lists.proofs.list.Loading.new_in.Goals as goal

pub returns-clause-read : goal.returns-clause-read
returns-clause-read g c = nothing_read _ c.new_in.ensures.empty c.new_in.ensures.size c.new-2.ensures.items refl c.new.ensures.items
