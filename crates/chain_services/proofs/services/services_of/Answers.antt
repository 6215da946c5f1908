use Rattle.std.proofs.Common.{[], sym, subst}
use Rattle.chain_services.specs.Serving.{AllServe}
use Rattle.chain_services.proofs.services.services_of.Goals as goal

pub returns-in-Ok-add_services : goal.returns-in-Ok-add_services
returns-in-Ok-add_services g c = c.in-Ok-add_services.ensures [] (subst (λ l. AllServe l [] []) (sym c.in-Ok.ensures.items) tt)
