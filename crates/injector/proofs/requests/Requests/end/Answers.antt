use Rattle.std.proofs.Common.{sym, ap, ◌∙◌, rules}
use Rattle.std.specs.Prelude.{Ok, Err}
use Rattle.injector.proofs.RequestLemmas.{on-line, end-answer, ended-is, end-no_time, restated}
use Rattle.injector.proofs.requests.Requests.end.Goals as goal

pub returns-in_default-clause-answer : goal.returns-in_default-clause-answer
returns-in_default-clause-answer c = λ latest standing stands.
    end-no_time c.args.self.now.table latest standing c.args.request (sym c.high.ensures.value ∙ c.in_default.is) stands

pub returns-in-Ok-New-clause-answer : goal.returns-in-Ok-New-clause-answer
returns-in-Ok-New-clause-answer c = λ latest standing stands.
    let o = on-line c.args.self.now.table latest standing c.in-Some.high (sym c.high.ensures.value ∙ c.in-Some.is) stands in
    end-answer latest standing c.in-Some.high o c.args.request c.time_of-end.result _ (search rules) c.time_of-end.ensures (sym (c.in-Ok-New.is ∙ ap Ok c.in-Ok-New.field-0-is) ∙ c.shorten.ensures.answer latest standing stands)

pub returns-in-Ok-Same-clause-answer : goal.returns-in-Ok-Same-clause-answer
returns-in-Ok-Same-clause-answer c = λ latest standing stands.
    let o = on-line c.args.self.now.table latest standing c.in-Some.high (sym c.high.ensures.value ∙ c.in-Some.is) stands in
    end-answer latest standing c.in-Some.high o c.args.request c.time_of-end.result _ (search rules) c.time_of-end.ensures (sym (c.in-Ok-Same.is ∙ ap Ok c.in-Ok-Same.field-0-is) ∙ c.shorten.ensures.answer latest standing stands)

pub returns-in-Err-NoSuchEvent-clause-answer : goal.returns-in-Err-NoSuchEvent-clause-answer
returns-in-Err-NoSuchEvent-clause-answer c = λ latest standing stands.
    let o = on-line c.args.self.now.table latest standing c.in-Some.high (sym c.high.ensures.value ∙ c.in-Some.is) stands in
    end-answer latest standing c.in-Some.high o c.args.request c.time_of-end.result _ (search rules) c.time_of-end.ensures (sym (c.in-Err-NoSuchEvent.is ∙ ap Err c.in-Err-NoSuchEvent.field-0-is) ∙ c.shorten.ensures.answer latest standing stands)

pub returns-in-Err-BadEnd-clause-answer : goal.returns-in-Err-BadEnd-clause-answer
returns-in-Err-BadEnd-clause-answer c = λ latest standing stands.
    let o = on-line c.args.self.now.table latest standing c.in-Some.high (sym c.high.ensures.value ∙ c.in-Some.is) stands in
    end-answer latest standing c.in-Some.high o c.args.request c.time_of-end.result _ (search rules) c.time_of-end.ensures (sym (c.in-Err-BadEnd.is ∙ ap Err c.in-Err-BadEnd.field-0-is) ∙ c.shorten.ensures.answer latest standing stands)

pub returns-in-Ok-New-clause-ended : goal.returns-in-Ok-New-clause-ended
returns-in-Ok-New-clause-ended c = λ _ latest standing stands.
    let o = on-line c.args.self.now.table latest standing c.in-Some.high (sym c.high.ensures.value ∙ c.in-Some.is) stands in
    restated _ latest _ _ (ended-is latest standing c.in-Some.high o c.args.request c.time_of-end.result (search rules) c.time_of-end.ensures)
    (c.shorten.ensures.new (c.in-Ok-New.is ∙ ap Ok c.in-Ok-New.field-0-is) latest standing stands)
