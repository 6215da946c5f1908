use Rattle.std.proofs.Common.{◌≡◌, ◌==◌, sym, ap, subst, ◌∙◌, arith}
use Rattle.injector.specs.Steps.{packets_in}
use Rattle.chain_services.specs.Owners.{IsTold}
use Rattle.chain_services.proofs.owners.owners_of.Goals as goal

pub returns : goal.returns
returns c = λ ts steps all pid within.
    let past = packets_in steps in
    let zero : c.of_bits.result ≡ 0 = (let e = c.of_bits.ensures in omega (arith, e)) in
    c.tell_all.ensures ts ts steps all all pid within (λ none.
    c.tell.ensures ts steps all pid within (λ pat.
    subst (λ u. IsTold u ts pid past) (sym (c.of_all-owners.ensures pid within))
    (c.waiting_in.ensures ts steps pid all (ap (λ n. n == pid) (sym zero) ∙ pat) none)))
