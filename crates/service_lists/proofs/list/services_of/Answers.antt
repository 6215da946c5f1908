use Rattle.std.proofs.Common.{◌≡◌, List, sym, subst, rules}
use Rattle.psi_tables.specs.declared.config.Config.{Config}
use Rattle.chain_services.specs.Refused.{IsRefused}
use Rattle.service_lists.specs.Lists.{StopsAt, IsOfServices, of_services}
use Rattle.service_lists.proofs.LoadingLemmas.{refused_stops, refused_so}
use Rattle.service_lists.proofs.list.services_of.Goals as goal

pub returns-clause-stops : goal.returns-clause-stops
returns-clause-stops g c = λ text h.
    let told : c.of_list.result.fault ≡ of_services c.in-Err.fault = search rules in
    let configs : c.as_slice.result.now ≡ c.args.loading.configs.items = search rules in
    subst (λ f. StopsAt f c.of_list.result.line text) (sym told) (refused_stops c.in-Err.fault c.of_list.result.line c.args.loading.configs.items c.args.loading.libraries.items text c.of_list.ensures.line h
    (subst (λ (cs : List Config). IsRefused cs c.in-Err.fault) configs c.in-Err.ensures.err))

pub returns-clause-refused : goal.returns-clause-refused
returns-clause-refused g c =
    let told : c.of_list.result.fault ≡ of_services c.in-Err.fault = search rules in
    subst IsOfServices (sym told) (refused_so c.in-Err.fault)
