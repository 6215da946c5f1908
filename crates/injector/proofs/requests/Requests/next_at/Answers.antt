use Rattle.std.proofs.Common.{ap, ◌∙◌}
use Rattle.std.specs.Prelude.{option_map}
use Rattle.pes_time.specs.Line.{ring_of}
use Rattle.event_table.specs.Standing.{on_ring}
use Rattle.injector.specs.Noting.{ring_next}
use Rattle.injector.proofs.SendingLemmas.{sending-shown}
use Rattle.injector.proofs.requests.Requests.next_at.Goals as goal

pub returns : goal.returns
returns c = λ latest done x left sending at.
    let e = c.entry-entry.result.now.event in
    let n = c.entry-entry.result.now.value in
    let shown = sending-shown c.args.self.now latest latest done x left sending c.args.place e n at c.entry-entry.ensures.event c.entry-entry.ensures.value in
    c.next_time.ensures
    ∙ ap (λ k. ring_next k n.last c.high-high.result) shown.event_is
    ∙ ap (λ k. ring_next (on_ring x.event) k.last c.high-high.result) shown.notes_are
    ∙ ap (λ k. ring_next (on_ring x.event) (option_map ring_of x.last) k) (c.high-high.ensures ∙ sending.table.high)
