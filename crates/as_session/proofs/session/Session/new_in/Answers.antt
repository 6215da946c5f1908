use Rattle.std.proofs.Common.{rules}
use Rattle.as_session.proofs.FrameLemmas.{partial_none}
use Rattle.as_session.proofs.session.Session.new_in.Goals as goal

pub invariant_of-result : goal.invariant_of-result
invariant_of-result g c = record { long = search rules; roomy = search rules; partial = partial_none _ (search rules) }
