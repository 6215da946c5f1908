use Rattle.std.proofs.Common.{◌++◌, sym, subst}
use Rattle.chain_services.specs.Serving.{AllServe}
use Rattle.chain_services.specs.Parts.{AddsEvents, RestFails}
use Rattle.chain_services.proofs.RestLemmas.{all_told}
use Rattle.chain_services.proofs.desk.Desk.finish.Goals as goal

pub returns-in-Ok-clause-ok : goal.returns-in-Ok-clause-ok
returns-in-Ok-clause-ok g c = λ ts steps start ps filed all is_held.
    let now = c.finish_each.new.events.items in
    let done = c.in-Ok.ensures.ok ts steps start ps filed (subst (λ l. AllServe l ts steps) (sym c.as_mut_slice.ensures.value) all) is_held in
    (all_told now ts steps (subst (λ es. AddsEvents es now ts steps) c.new-events.ensures done.0), done.1)

pub returns-in-Err-clause-err : goal.returns-in-Err-clause-err
returns-in-Err-clause-err g c = λ ts steps start ps filed all is_held.
    let fails = g.K.PacketSink.fails c.finish_each.new.out start in
    subst (λ es. RestFails c.in-Err.fault es ts steps (λ put q x. fails (ps ++ put) q x)) c.new-events.ensures
    (c.in-Err.ensures.err ts steps start ps filed (subst (λ l. AllServe l ts steps) (sym c.as_mut_slice.ensures.value) all) is_held)
