use Rattle.std.proofs.Common.{sym, ◌∙◌, rules}
use Rattle.event_table.proofs.TableLemmas.{event-place, event-at, found, nothing-found, reached, cancel-nothing, cancel-late, cancel-done, cancelled-stands}
use Rattle.event_table.proofs.table.Table.cancel.Goals as goal

pub returns-in_default-clause-answer : goal.returns-in_default-clause-answer
returns-in_default-clause-answer g c = λ latest standing stands.
    cancel-nothing latest standing c.args.id (nothing-found c.args.self.now latest standing c.args.id stands (event-place c.args.self.now c.args.id (sym c.place_of.ensures ∙ c.in_default.is)))

pub returns-then-has_reached-clause-answer : goal.returns-then-has_reached-clause-answer
returns-then-has_reached-clause-answer g c = λ latest standing stands.
    let f = found c.args.self.now latest standing c.args.id c.in-Some.place c.entry_at.result.event stands
    (event-place c.args.self.now c.args.id (sym c.place_of.ensures ∙ c.in-Some.is)) (event-at c.args.self.now c.in-Some.place c.entry_at.result c.entry_at.ensures) in
    cancel-late latest standing c.args.id f.event f.is (sym (reached _ latest standing c.args.id _ f stands) ∙ sym c.has_reached.ensures ∙ c.if-has_reached.true)

pub returns-clause-answer : goal.returns-clause-answer
returns-clause-answer g c = λ latest standing stands.
    let f = found c.args.self.now latest standing c.args.id c.in-Some.place c.entry_at.result.event stands
    (event-place c.args.self.now c.args.id (sym c.place_of.ensures ∙ c.in-Some.is)) (event-at c.args.self.now c.in-Some.place c.entry_at.result c.entry_at.ensures) in
    cancel-done latest standing c.args.id f.event f.is (sym (reached _ latest standing c.args.id _ f stands) ∙ sym c.has_reached.ensures ∙ c.if-has_reached.false)

pub returns-clause-cancelled : goal.returns-clause-cancelled
returns-clause-cancelled g c = λ done latest standing stands.
    cancelled-stands c.args.self.now _ latest standing c.args.id c.in-Some.place c.entry_at.result.event stands
    (event-place c.args.self.now c.args.id (sym c.place_of.ensures ∙ c.in-Some.is)) (event-at c.args.self.now c.in-Some.place c.entry_at.result c.entry_at.ensures) (search rules) (search rules)
