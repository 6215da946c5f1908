use Rattle.injector.proofs.PassedLemmas.{injector-past}
use Rattle.chain_engine.proofs.UnfollowedLemmas.{passes-by}
use Rattle.chain_engine.proofs.ChainedLemmas.{passes-on-air}
use Rattle.chain_engine.proofs.service.Service.overlooks.Goals as goal

pub returns-clause-stands : goal.returns-clause-stands
returns-clause-stands c = λ d filed steps h is.
    passes-by c.args.self.now d filed c.args.packet.now steps h c.of_bytes.ensures (c.overlooks.ensures.quiet d steps h.injector is)
    (c.overlooks.ensures.unfollowed d steps h.injector is)

pub returns-clause-injector : goal.returns-clause-injector
returns-clause-injector c = λ d steps h is.
    injector-past c.args.self.now.injector d c.args.packet.now steps h (c.overlooks.ensures.quiet d steps h is) (c.overlooks.ensures.unfollowed d steps h is)

pub returns-clause-airs : goal.returns-clause-airs
returns-clause-airs c = λ d filed steps fed h is.
    passes-on-air c.args.self.now d filed c.args.packet.now steps fed h c.of_bytes.ensures (c.overlooks.ensures.quiet d steps h.injector is)
    (c.overlooks.ensures.unfollowed d steps h.injector is)
