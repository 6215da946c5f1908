use Rattle.std.proofs.Common.{refl, sym, ◌∙◌}
use Rattle.injector.proofs.CountLemmas.{counted-accepted, counted-refused}
use Rattle.injector.proofs.counts.counted.Goals as goal

pub returns-then-accepts : goal.returns-then-accepts
returns-then-accepts c = λ index m past counts is.
    counted-accepted index m past c.args.before (record { messages = c.saturating_add.result; accepted = c.saturating_add-then-accepts.result; refused = c.args.before.refused }) counts c.saturating_add.ensures
    (sym (c.accepts.ensures index m past is) ∙ c.if-accepts.true) c.saturating_add-then-accepts.ensures refl

pub returns-else-accepts : goal.returns-else-accepts
returns-else-accepts c = λ index m past counts is.
    counted-refused index m past c.args.before (record { messages = c.saturating_add.result; accepted = c.args.before.accepted; refused = c.saturating_add-else-accepts.result }) counts c.saturating_add.ensures
    c.args.reply.now is c.if-reply-eq-INJECT_RESPONSE.true (sym (c.accepts.ensures index m past is) ∙ c.if-accepts.false) c.saturating_add-else-accepts.ensures refl
