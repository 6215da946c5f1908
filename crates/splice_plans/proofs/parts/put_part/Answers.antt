use Rattle.std.proofs.Common.{◌≡◌, ◌++◌, ◌∙◌, ap, sym, subst, List, ℕ}
use Rattle.std.specs.Prelude.{slice_index_or}
use Rattle.std.proofs.lemmas.List.{get_or_default}
use Rattle.outgoing_packets.specs.Numbers.{FrontFails}
use Rattle.ad_library.specs.Library.{held}
use Rattle.event_table.specs.declared.table.Entry.{Entry}
use Rattle.splice_plans.specs.declared.plan.Plan.{Plan}
use Rattle.splice_plans.specs.Turning.{part_of}
use Rattle.splice_plans.specs.Parts.{packets_in}
use Rattle.splice_plans.proofs.parts.put_part.Goals as goal

pub returns-in-Err-clause-err : goal.returns-in-Err-clause-err
returns-in-Err-clause-err g c = λ entry of begin ps steps e_is is h k.
    let items = c.args.events.now.obeyed.table.entries.items in
    let one = c.index-standing-place.result in
    let two = c.index-standing-place-2.result in
    let here : Entry Plan = slice_index_or c.standing.result.now c.args.place one in
    let again : Entry Plan = slice_index_or c.standing-2.result.now c.args.place two in
    let same : here ≡ entry
    = ap (λ (xs : List (Entry Plan)). slice_index_or xs c.args.place one) (c.standing.ensures.entries ∙ ap (λ t. t.entries.items) c.table.ensures.same)
    ∙ get_or_default items c.args.place one entry c.requires.place ∙ sym e_is in
    let same_again : again ≡ entry
    = ap (λ (xs : List (Entry Plan)). slice_index_or xs c.args.place two) (c.standing-2.ensures.entries ∙ ap (λ t. t.entries.items) c.table-2.ensures.same)
    ∙ get_or_default items c.args.place two entry c.requires.place ∙ sym e_is in
    let F : List (List ℕ) → List ℕ → Type 0 = λ put p. g.S.PacketSink.fails c.put_slice.new.sink begin (ps ++ put) p c.in-Err.fault in
    subst (λ (x : Entry Plan). FrontFails (packets_in (held c.args.library.now) c.args.streams.now c.args.stream of x.event (part_of x.value c.args.stream).sent c.args.reached steps) F) same
    (subst (λ (x : Entry Plan). FrontFails (packets_in (held c.args.library.now) c.args.streams.now c.args.stream of here.event (part_of x.value c.args.stream).sent c.args.reached steps) F) (same_again ∙ sym same)
    (subst (λ q. FrontFails (packets_in (held c.args.library.now) c.args.streams.now c.args.stream of here.event q.sent c.args.reached steps) F) c.part-part.ensures (c.in-Err.ensures.err of begin ps steps is h k)))
