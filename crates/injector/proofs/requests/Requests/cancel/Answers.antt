use Rattle.std.proofs.Common.{sym, ap, ◌∙◌}
use Rattle.std.specs.Prelude.{Err}
use Rattle.injector.proofs.RequestLemmas.{told_cancel, cancel-told}
use Rattle.injector.proofs.requests.Requests.cancel.Goals as goal

pub returns-in-Ok-clause-answer : goal.returns-in-Ok-clause-answer
returns-in-Ok-clause-answer c = λ latest standing stands.
    ap told_cancel (sym c.in-Ok.is ∙ c.cancel.ensures.answer latest standing stands) ∙ cancel-told latest standing c.args.request

pub returns-in-Ok-clause-cancelled : goal.returns-in-Ok-clause-cancelled
returns-in-Ok-clause-cancelled c = λ _ latest standing stands. c.cancel.ensures.cancelled c.in-Ok.is latest standing stands

pub returns-in-Err-NoSuchEvent-clause-answer : goal.returns-in-Err-NoSuchEvent-clause-answer
returns-in-Err-NoSuchEvent-clause-answer c = λ latest standing stands.
    ap told_cancel (sym (c.in-Err-NoSuchEvent.is ∙ ap Err c.in-Err-NoSuchEvent.field-0-is) ∙ c.cancel.ensures.answer latest standing stands) ∙ cancel-told latest standing c.args.request

pub returns-in-Err-TooLate-clause-answer : goal.returns-in-Err-TooLate-clause-answer
returns-in-Err-TooLate-clause-answer c = λ latest standing stands.
    ap told_cancel (sym (c.in-Err-TooLate.is ∙ ap Err c.in-Err-TooLate.field-0-is) ∙ c.cancel.ensures.answer latest standing stands) ∙ cancel-told latest standing c.args.request
