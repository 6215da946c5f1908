use Rattle.std.proofs.Common.{sym, subst}
use Rattle.chain_services.specs.Serving.{AllServe}
use Rattle.chain_services.proofs.desk.Desk.share_a_pid.Goals as goal

pub returns : goal.returns
returns g c = λ ts steps all. c.share_a_pid.ensures ts steps (subst (λ l. AllServe l ts steps) (sym c.as_slice.ensures.value) all)
