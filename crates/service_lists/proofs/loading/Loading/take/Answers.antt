use Rattle.std.proofs.Common.{◌≡◌, ◌++◌, ◌∷◌, Some, inr, ap, ◌∙◌, sym, subst, rules, arith}
use Rattle.service_lists.specs.Lists.{StopsAt}
use Rattle.service_lists.specs.declared.fault.ServicesFault.TheVariants.{OutOfMemory}
use Rattle.service_lists.proofs.LoadingLemmas.{stops, stops_line, ended}
use Rattle.service_lists.proofs.loading.Loading.take.Goals as goal

pub returns-in-Err-clause-stops : goal.returns-in-Err-clause-stops
returns-in-Err-clause-stops g c = λ text h more.
    subst (λ f. StopsAt f c.of_line.result.line (text ++ c.args.byte ∷ more)) (sym c.of_line.ensures.fault)
    (stops c.args.self.now OutOfMemory c.of_line.result.line text (c.args.byte ∷ more) h tt (inr (c.of_line.ensures.line ∙ ap Some h.number_is)))

pub returns-in-Ok-load_line-clause-ok : goal.returns-in-Ok-load_line-clause-ok
returns-in-Ok-load_line-clause-ok g c = λ text h.
    let end : c.args.byte ≡ 10 = search rules in
    let number : c.load_line.new.self.number ≡ c.args.self.now.number = c.in-Ok-load_line.ensures.number in
    ended c.args.self.now _ c.args.byte text end c.clear.ensures.items (grind (arith, number)) h (c.in-Ok-load_line.ensures.ok h.before h.services) (c.in-Ok-load_line.ensures.described h.described)

pub returns-in-Err-load_line-clause-stops : goal.returns-in-Err-load_line-clause-stops
returns-in-Err-load_line-clause-stops g c = λ text h more.
    let end : c.args.byte ≡ 10 = search rules in
    stops_line c.args.self.now c.in-Err-load_line.unloaded.fault c.in-Err-load_line.unloaded.line text more c.args.byte end c.in-Err-load_line.ensures.at h
    c.in-Err-load_line.ensures.stops
