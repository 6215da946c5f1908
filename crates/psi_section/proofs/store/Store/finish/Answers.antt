use Rattle.std.proofs.Common.{◌≡◌, arith, sym, ap, ◌∙◌, ◌++◌, take}
use Rattle.psi_section.specs.Sections.{taken}
use Rattle.psi_section.specs.Storing.{content}
use Rattle.psi_section.proofs.FrontLemmas.{finish_whole}
use Rattle.psi_section.proofs.store.Store.finish.Goals as goal

pub returns-in-Whole-clause-taken : goal.returns-in-Whole-clause-taken
returns-in-Whole-clause-taken c = λ more.
    let part = content c.args.self.now in
    let bs = c.args.bytes.now in
    let n = c.in-Whole.size in
    let e : content c.truncate.new.self ≡ take n (part ++ bs) = c.truncate.ensures ∙ ap (take n) c.in-Whole.ensures.joined in
    ap (λ x. taken (x ++ more)) e ∙ finish_whole part bs more n (omega arith) (sym c.in-Whole.ensures.front)
