use Rattle.std.proofs.Common.{◌∙◌}
use Rattle.ad_library.proofs.StoreLemmas.{top_none, top_some}
use Rattle.ad_library.proofs.store.top_with.Goals as goal

pub returns-in-None : goal.returns-in-None
returns-in-None c = λ us h. top_none us c.args.places.now c.args.time h c.in-None.ensures.value

pub returns-in-Some : goal.returns-in-Some
returns-in-Some c = λ us h. c.later.ensures ∙ top_some us c.args.places.now c.in-Some.place.now c.args.time h c.in-Some.ensures.value
