use Rattle.std.proofs.Common.{sym, subst}
use Rattle.chain_services.specs.Serving.{AllServe}
use Rattle.chain_services.proofs.desk.Desk.learn.Goals as goal

pub returns-clause-owners : goal.returns-clause-owners
returns-clause-owners g c = λ ts steps all.
    c.owners_of-self.ensures ts steps (subst (λ l. AllServe l ts steps) (sym c.as_slice.ensures.value) all)
