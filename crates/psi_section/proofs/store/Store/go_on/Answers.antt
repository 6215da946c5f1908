use Rattle.std.proofs.Common.{◌≡◌, arith, sym, ap, ◌∙◌, ◌++◌, take}
use Rattle.psi_section.specs.Sections.{taken}
use Rattle.psi_section.specs.Storing.{content}
use Rattle.psi_section.proofs.FrontLemmas.{go_on_whole}
use Rattle.psi_section.proofs.store.Store.go_on.Goals as goal

pub returns-in-Whole : goal.returns-in-Whole
returns-in-Whole c =
    let part = content c.args.self.now in
    let bs = c.args.payload.now in
    let n = c.in-Whole.size in
    let e : content c.truncate.new.self ≡ take n (part ++ bs) = c.truncate.ensures ∙ ap (take n) c.in-Whole.ensures.joined in
    ap taken e ∙ go_on_whole part bs n (omega arith) (sym c.in-Whole.ensures.front)
