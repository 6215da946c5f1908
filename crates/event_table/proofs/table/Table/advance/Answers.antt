use Rattle.std.proofs.Common.{◌+◌, ◌%◌, ◌^◌, ap, ◌∙◌, rules}
use Rattle.std.specs.Prelude.{map}
use Rattle.arrayvec.proofs.ArrayVecLemmas.{filter-from_retain}
use Rattle.event_table.specs.Rings.{is_before_on_ring}
use Rattle.event_table.specs.Events.{ring_end}
use Rattle.event_table.proofs.TableLemmas.{advanced-stands, events-kept, values-kept, pairs-kept}
use Rattle.event_table.proofs.table.Table.advance.Goals as goal

pub returns-clause-stands : goal.returns-clause-stands
returns-clause-stands g c = λ latest standing later stands is.
    advanced-stands c.args.self.now _ latest standing c.args.high later (search rules) c.requires stands is (search rules)
    (ap (map (λ entry. entry.event)) (filter-from_retain _ (λ entry. is_before_on_ring c.args.high ((ring_end entry.event + 900000) % 2 ^ 33)) _ (λ x b f y h. search rules) _ _ c.retain.ensures.filtered)
    ∙ events-kept (λ e. is_before_on_ring c.args.high ((ring_end e + 900000) % 2 ^ 33)) _)

pub returns-clause-values : goal.returns-clause-values
returns-clause-values g c = λ latest standing later value stands is values.
    values-kept c.args.self.now _ latest standing c.args.high later value (search rules) c.requires stands is values
    (filter-from_retain _ (λ entry. is_before_on_ring c.args.high ((ring_end entry.event + 900000) % 2 ^ 33)) _ (λ x b f y h. search rules) _ _ c.retain.ensures.filtered)

pub returns-clause-pairs : goal.returns-clause-pairs
returns-clause-pairs g c = λ latest pairs later stands is values.
    pairs-kept c.args.self.now _ latest pairs c.args.high later (search rules) c.requires stands is values
    (filter-from_retain _ (λ entry. is_before_on_ring c.args.high ((ring_end entry.event + 900000) % 2 ^ 33)) _ (λ x b f y h. search rules) _ _ c.retain.ensures.filtered)
