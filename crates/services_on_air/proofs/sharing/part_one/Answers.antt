use Rattle.std.proofs.Common.{sym, ◌∙◌}
use Rattle.services_on_air.proofs.ListLemmas.{parts-so, stays-so}
use Rattle.services_on_air.proofs.sharing.part_one.Goals as goal

pub returns-then-share_one-clause-stands : goal.returns-then-share_one-clause-stands
returns-then-share_one-clause-stands g c = λ a b h k. parts-so c.part.new.self a b (sym (c.share_one.ensures a b h k) ∙ c.if-share_one.true) (c.part.ensures.stands b k)

pub returns-clause-stands : goal.returns-clause-stands
returns-clause-stands g c = λ a b h k. stays-so c.args.other.now a b (sym (c.share_one.ensures a b h k) ∙ c.if-share_one.false) k
