use Rattle.std.proofs.Common.{◌≡◌, ap, sym, ◌∙◌, ◌++◌, map}
use Rattle.std.proofs.lemmas.List.{append-nil}
use Rattle.conformance.specs.declared.sections.Finished.{Finished}
use Rattle.conformance.specs.Sections.{at_place, placed}
use Rattle.conformance.proofs.SectionLemmas.{kept_more}
use Rattle.conformance.proofs.sections.keep.Goals as goal

pub loop-section-preserved : goal.loop-section-preserved
loop-section-preserved c =
    let s = c.in-Some.section.now in
    let f : Finished = record { place = c.args.place; section = c.in_ok-section.section } in
    let same : placed f ≡ (c.args.place, s) = cc (c.in_ok-section.ensures.items) in
    kept_more c.args.place s _ c.loop-section.finished.items c.push.new.self.items f _ same c.in_ok-push.ensures.items
    (ap (λ l. map placed c.loop-section.finished.items ++ at_place c.args.place l) (sym c.in-Some.ensures.steps) ∙ c.loop-section.invariant)

pub returns : goal.returns
returns c =
    sym (append-nil (map placed c.loop-section.finished.items))
    ∙ ap (λ l. map placed c.loop-section.finished.items ++ at_place c.args.place l) (sym c.in-None.ensures.steps.0) ∙ c.loop-section.invariant
