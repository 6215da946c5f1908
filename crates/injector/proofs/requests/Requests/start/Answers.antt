use Rattle.std.proofs.Common.{sym, ap, ◌∙◌, rules}
use Rattle.std.specs.Prelude.{Ok, Err}
use Rattle.injector.proofs.RequestLemmas.{on-line, start-answer, started-is, restated}
use Rattle.injector.proofs.requests.Requests.start.Goals as goal

pub returns-in-Ok-New-clause-answer : goal.returns-in-Ok-New-clause-answer
returns-in-Ok-New-clause-answer c = λ latest standing stands.
    let o = on-line c.args.self.now.table latest standing c.in-Some.high (sym c.high.ensures.value ∙ c.in-Some.is) stands in
    start-answer latest standing c.in-Some.high o c.args.request c.event_at.result _ (search rules) c.event_at.ensures (sym (c.in-Ok-New.is ∙ ap Ok c.in-Ok-New.field-0-is) ∙ c.arm.ensures.answer latest standing stands)

pub returns-in-Ok-Same-clause-answer : goal.returns-in-Ok-Same-clause-answer
returns-in-Ok-Same-clause-answer c = λ latest standing stands.
    let o = on-line c.args.self.now.table latest standing c.in-Some.high (sym c.high.ensures.value ∙ c.in-Some.is) stands in
    start-answer latest standing c.in-Some.high o c.args.request c.event_at.result _ (search rules) c.event_at.ensures (sym (c.in-Ok-Same.is ∙ ap Ok c.in-Ok-Same.field-0-is) ∙ c.arm.ensures.answer latest standing stands)

pub returns-in-Err-InUse-clause-answer : goal.returns-in-Err-InUse-clause-answer
returns-in-Err-InUse-clause-answer c = λ latest standing stands.
    let o = on-line c.args.self.now.table latest standing c.in-Some.high (sym c.high.ensures.value ∙ c.in-Some.is) stands in
    start-answer latest standing c.in-Some.high o c.args.request c.event_at.result _ (search rules) c.event_at.ensures (sym (c.in-Err-InUse.is ∙ ap Err c.in-Err-InUse.field-0-is) ∙ c.arm.ensures.answer latest standing stands)

pub returns-in-Err-Full-clause-answer : goal.returns-in-Err-Full-clause-answer
returns-in-Err-Full-clause-answer c = λ latest standing stands.
    let o = on-line c.args.self.now.table latest standing c.in-Some.high (sym c.high.ensures.value ∙ c.in-Some.is) stands in
    start-answer latest standing c.in-Some.high o c.args.request c.event_at.result _ (search rules) c.event_at.ensures (sym (c.in-Err-Full.is ∙ ap Err c.in-Err-Full.field-0-is) ∙ c.arm.ensures.answer latest standing stands)

pub returns-in-Err-Overlap-clause-answer : goal.returns-in-Err-Overlap-clause-answer
returns-in-Err-Overlap-clause-answer c = λ latest standing stands.
    let o = on-line c.args.self.now.table latest standing c.in-Some.high (sym c.high.ensures.value ∙ c.in-Some.is) stands in
    start-answer latest standing c.in-Some.high o c.args.request c.event_at.result _ (search rules) c.event_at.ensures (sym (c.in-Err-Overlap.is ∙ ap Err c.in-Err-Overlap.field-0-is) ∙ c.arm.ensures.answer latest standing stands)

pub returns-in-Ok-New-clause-started : goal.returns-in-Ok-New-clause-started
returns-in-Ok-New-clause-started c = λ _ latest standing stands.
    let o = on-line c.args.self.now.table latest standing c.in-Some.high (sym c.high.ensures.value ∙ c.in-Some.is) stands in
    restated _ latest _ _ (started-is latest standing c.in-Some.high o c.args.request c.event_at.result (search rules) c.event_at.ensures)
    (c.arm.ensures.new (c.in-Ok-New.is ∙ ap Ok c.in-Ok-New.field-0-is) latest standing stands)
