use Rattle.std.proofs.Common.{sym, ◌∙◌, ap, rules}
use Rattle.pes_time.specs.Line.{place}
use Rattle.event_table.proofs.EventLemmas.{read-same, read-other}
use Rattle.event_table.proofs.TableLemmas.{ahead-told, shorten-far, event-place, event-at, found, nothing-found, shorten-nothing, shorten-cancelled, shorten-same, shorten-bad, shorten-new, same-end, early-end, shortened-stands}
use Rattle.event_table.proofs.table.Table.shorten.Goals as goal

pub returns-in_default-clause-answer : goal.returns-in_default-clause-answer
returns-in_default-clause-answer g c = λ latest standing stands.
    shorten-nothing latest standing c.args.id (place latest c.args.end) (nothing-found c.args.self.now latest standing c.args.id stands (event-place c.args.self.now c.args.id (sym c.place_of.ensures ∙ c.in_default.is)))

pub returns-then-not-is_ahead_of_high-clause-answer : goal.returns-then-not-is_ahead_of_high-clause-answer
returns-then-not-is_ahead_of_high-clause-answer g c = λ latest standing stands.
    let f = found c.args.self.now latest standing c.args.id c.in-Some.place c.entry_at.result.event stands
    (event-place c.args.self.now c.args.id (sym c.place_of.ensures ∙ c.in-Some.is)) (event-at c.args.self.now c.in-Some.place c.entry_at.result c.entry_at.ensures) in
    shorten-far latest standing c.args.id (place latest c.args.end) f.event f.is
    (ahead-told c.args.self.now latest standing c.args.end c.is_ahead_of_high.result c.is_ahead_of_high.ensures stands ∙ c.if-not-is_ahead_of_high.true)

pub returns-then-event-clause-answer : goal.returns-then-event-clause-answer
returns-then-event-clause-answer g c = λ latest standing stands.
    let f = found c.args.self.now latest standing c.args.id c.in-Some.place c.entry_at.result.event stands
    (event-place c.args.self.now c.args.id (sym c.place_of.ensures ∙ c.in-Some.is)) (event-at c.args.self.now c.in-Some.place c.entry_at.result c.entry_at.ensures) in
    shorten-cancelled latest standing c.args.id (place latest c.args.end) f.event f.is
    (ahead-told c.args.self.now latest standing c.args.end c.is_ahead_of_high.result c.is_ahead_of_high.ensures stands ∙ c.if-not-is_ahead_of_high.false)
    (ap (λ x. x.cancelled) f.ring ∙ c.if-event.true)

pub returns-then-ticks-clause-answer : goal.returns-then-ticks-clause-answer
returns-then-ticks-clause-answer g c = λ latest standing stands.
    let f = found c.args.self.now latest standing c.args.id c.in-Some.place c.entry_at.result.event stands
    (event-place c.args.self.now c.args.id (sym c.place_of.ensures ∙ c.in-Some.is)) (event-at c.args.self.now c.in-Some.place c.entry_at.result c.entry_at.ensures) in
    shorten-same latest standing c.args.id (place latest c.args.end) f.event f.is
    (ahead-told c.args.self.now latest standing c.args.end c.is_ahead_of_high.result c.is_ahead_of_high.ensures stands ∙ c.if-not-is_ahead_of_high.false)
    (ap (λ x. x.cancelled) f.ring ∙ c.if-event.false)
    (sym (same-end c.args.self.now latest standing c.args.id c.entry_at.result.event c.args.end f (search rules) (ahead-told c.args.self.now latest standing c.args.end c.is_ahead_of_high.result c.is_ahead_of_high.ensures stands ∙ c.if-not-is_ahead_of_high.false) stands) ∙ read-same _ _ _ _ c.ticks.ensures.value (c.ticks-2.ensures.value ∙ c.end.ensures) c.if-ticks.true)

pub returns-then-not-ends_early_at-clause-answer : goal.returns-then-not-ends_early_at-clause-answer
returns-then-not-ends_early_at-clause-answer g c = λ latest standing stands.
    let f = found c.args.self.now latest standing c.args.id c.in-Some.place c.entry_at.result.event stands
    (event-place c.args.self.now c.args.id (sym c.place_of.ensures ∙ c.in-Some.is)) (event-at c.args.self.now c.in-Some.place c.entry_at.result c.entry_at.ensures) in
    shorten-bad latest standing c.args.id (place latest c.args.end) f.event f.is
    (ahead-told c.args.self.now latest standing c.args.end c.is_ahead_of_high.result c.is_ahead_of_high.ensures stands ∙ c.if-not-is_ahead_of_high.false)
    (ap (λ x. x.cancelled) f.ring ∙ c.if-event.false)
    (sym (same-end c.args.self.now latest standing c.args.id c.entry_at.result.event c.args.end f (search rules) (ahead-told c.args.self.now latest standing c.args.end c.is_ahead_of_high.result c.is_ahead_of_high.ensures stands ∙ c.if-not-is_ahead_of_high.false) stands) ∙ read-other _ _ _ _ c.ticks.ensures.value (c.ticks-2.ensures.value ∙ c.end.ensures) c.if-ticks.false)
    (sym (early-end c.args.self.now latest standing c.args.id c.entry_at.result.event c.args.end f (search rules) (ahead-told c.args.self.now latest standing c.args.end c.is_ahead_of_high.result c.is_ahead_of_high.ensures stands ∙ c.if-not-is_ahead_of_high.false) stands) ∙ sym c.ends_early_at.ensures ∙ c.if-not-ends_early_at.true)

pub returns-clause-answer : goal.returns-clause-answer
returns-clause-answer g c = λ latest standing stands.
    let f = found c.args.self.now latest standing c.args.id c.in-Some.place c.entry_at.result.event stands
    (event-place c.args.self.now c.args.id (sym c.place_of.ensures ∙ c.in-Some.is)) (event-at c.args.self.now c.in-Some.place c.entry_at.result c.entry_at.ensures) in
    shorten-new latest standing c.args.id (place latest c.args.end) f.event f.is
    (ahead-told c.args.self.now latest standing c.args.end c.is_ahead_of_high.result c.is_ahead_of_high.ensures stands ∙ c.if-not-is_ahead_of_high.false)
    (ap (λ x. x.cancelled) f.ring ∙ c.if-event.false)
    (sym (same-end c.args.self.now latest standing c.args.id c.entry_at.result.event c.args.end f (search rules) (ahead-told c.args.self.now latest standing c.args.end c.is_ahead_of_high.result c.is_ahead_of_high.ensures stands ∙ c.if-not-is_ahead_of_high.false) stands) ∙ read-other _ _ _ _ c.ticks.ensures.value (c.ticks-2.ensures.value ∙ c.end.ensures) c.if-ticks.false)
    (sym (early-end c.args.self.now latest standing c.args.id c.entry_at.result.event c.args.end f (search rules) (ahead-told c.args.self.now latest standing c.args.end c.is_ahead_of_high.result c.is_ahead_of_high.ensures stands ∙ c.if-not-is_ahead_of_high.false) stands) ∙ sym c.ends_early_at.ensures ∙ c.if-not-ends_early_at.false)

pub returns-clause-new : goal.returns-clause-new
returns-clause-new g c = λ _ latest standing stands.
    shortened-stands c.args.self.now _ latest standing c.args.id c.in-Some.place c.entry_at.result.event c.args.end (search rules) (ahead-told c.args.self.now latest standing c.args.end c.is_ahead_of_high.result c.is_ahead_of_high.ensures stands ∙ c.if-not-is_ahead_of_high.false) stands
    (event-place c.args.self.now c.args.id (sym c.place_of.ensures ∙ c.in-Some.is)) (event-at c.args.self.now c.in-Some.place c.entry_at.result c.entry_at.ensures)
    (sym c.ends_early_at.ensures ∙ c.if-not-ends_early_at.false) (search rules) (search rules)
