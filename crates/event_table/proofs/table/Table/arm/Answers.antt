use Rattle.std.proofs.Common.{sym, ◌∙◌, rules}
use Rattle.event_table.specs.Standing.{on_line}
use Rattle.event_table.proofs.TableLemmas.{pushed-events, pushed-values, any-meets, is_full-items, arm-in_use, arm-full, arm-overlap, arm-new, arm-stands}
use Rattle.event_table.proofs.table.Table.arm.Goals as goal

pub returns-then-has_id-clause-answer : goal.returns-then-has_id-clause-answer
returns-then-has_id-clause-answer g c = λ latest standing stands.
    arm-in_use standing (on_line latest c.args.event)
    (sym (c.is_repeat.ensures latest standing stands) ∙ c.if-is_repeat.false)
    (sym (c.has_id.ensures latest standing stands) ∙ c.if-has_id.true)

pub returns-then-is_full-clause-answer : goal.returns-then-is_full-clause-answer
returns-then-is_full-clause-answer g c = λ latest standing stands.
    arm-full standing (on_line latest c.args.event)
    (sym (c.is_repeat.ensures latest standing stands) ∙ c.if-is_repeat.false)
    (sym (c.has_id.ensures latest standing stands) ∙ c.if-has_id.false)
    (sym (is_full-items _ latest standing stands) ∙ sym c.is_full.ensures.value ∙ c.if-is_full.true)

pub returns-then-meets-clause-answer : goal.returns-then-meets-clause-answer
returns-then-meets-clause-answer g c = λ latest standing stands.
    arm-overlap standing (on_line latest c.args.event)
    (sym (c.is_repeat.ensures latest standing stands) ∙ c.if-is_repeat.false)
    (sym (c.has_id.ensures latest standing stands) ∙ c.if-has_id.false)
    (sym (is_full-items _ latest standing stands) ∙ sym c.is_full.ensures.value ∙ c.if-is_full.false)
    (sym (any-meets _ latest standing c.args.event (search rules) c.requires stands) ∙ sym c.meets.ensures ∙ c.if-meets.true)

pub returns-clause-answer : goal.returns-clause-answer
returns-clause-answer g c = λ latest standing stands.
    arm-new standing (on_line latest c.args.event)
    (sym (c.is_repeat.ensures latest standing stands) ∙ c.if-is_repeat.false)
    (sym (c.has_id.ensures latest standing stands) ∙ c.if-has_id.false)
    (sym (is_full-items _ latest standing stands) ∙ sym c.is_full.ensures.value ∙ c.if-is_full.false)
    (sym (any-meets _ latest standing c.args.event (search rules) c.requires stands) ∙ sym c.meets.ensures ∙ c.if-meets.false)

pub returns-clause-new : goal.returns-clause-new
returns-clause-new g c = λ _ latest standing stands.
    arm-stands _ _ latest standing c.args.event (search rules) c.requires stands
    (sym (c.has_id.ensures latest standing stands) ∙ c.if-has_id.false)
    (sym (any-meets _ latest standing c.args.event (search rules) c.requires stands) ∙ sym c.meets.ensures ∙ c.if-meets.false)
    (search rules) (pushed-events _ _ _ c.push.ensures.items)

pub returns-clause-value : goal.returns-clause-value
returns-clause-value g c = λ _. pushed-values _ _ _ c.push.ensures.items
