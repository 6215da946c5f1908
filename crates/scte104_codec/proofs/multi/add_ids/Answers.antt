use Rattle.std.proofs.Common.{◌≡◌, ◌+◌, ◌≤◌, ◌++◌, length, refl, arith, ap}
use Rattle.std.proofs.lemmas.List.{length-append}
use Rattle.scte104_codec.specs.AvailIdsLeft.{avail_ids_left}
use Rattle.scte104_codec.proofs.AskedLemmas.{ids_count}
use Rattle.scte104_codec.proofs.multi.add_ids.Goals as goal

pub returns-clause-fits : goal.returns-clause-fits
returns-clause-fits g c =
    let none : length (avail_ids_left c.loop-id.id-iterator) ≡ 0 = ap length c.in-None.ensures.steps.0 in
    let count = ids_count c.loop-id.ids.items (avail_ids_left c.loop-id.id-iterator) (c.args.ids.now.items ++ avail_ids_left c.args.more) c.loop-id.invariant.1 in
    let start = length-append c.args.ids.now.items (avail_ids_left c.args.more) in
    let le : length c.args.ids.now.items + length (avail_ids_left c.args.more) ≤ g.row.N = omega (arith, none, count, start, c.loop-id.invariant.0) in
    (λ t. le, λ t. refl)
