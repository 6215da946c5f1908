use Rattle.std.proofs.Common.{◌++◌, ◌∙◌, ap, subst, arith}
use Rattle.outgoing_packets.specs.Numbers.{FrontFails}
use Rattle.ad_library.specs.Advertisements.{count_of_kind}
use Rattle.ad_library.specs.Library.{held}
use Rattle.ad_library.specs.Slices.{left}
use Rattle.splice_plans.proofs.PartLemmas.{one-there, packets-lent, fits-more}
use Rattle.splice_plans.proofs.parts.put_slice.Goals as goal

pub overflow_add-result : goal.overflow_add-result
overflow_add-result g c =
    let few = fits-more c.args.reached (left c.in-Some.slice) (left c.skip.new.self) c.args.sent c.in-Ok.count c.most-most.result c.skip.ensures.left c.in-Ok.ensures.count c.most-most.ensures in
    omega (arith, few)

pub returns-in-Err-clause-err : goal.returns-in-Err-clause-err
returns-in-Err-clause-err g c = λ of begin ps steps is h k.
    let lent = c.index-streams-stream.result in
    let same = one-there c.args.streams.now c.args.stream lent of c.requires c.index-streams-stream.is is in
    let count = c.count_of_kind-k.ensures ∙ ap (count_of_kind lent.kind) c.split_at.ensures.front in
    let all = packets-lent (held c.args.library.now) c.args.streams.now c.args.stream of c.args.event.now c.args.sent c.args.reached steps lent c.count_of_kind-k.result (left c.in-Some.slice) (left c.skip.new.self)
    c.in-Some.slice.zero c.skip.new.self.zero same count c.in-Some.ensures.units c.in-Some.ensures.zero c.skip.ensures.left c.skip.ensures.zero in
    subst (λ qs. FrontFails qs (λ put p. g.S.PacketSink.fails c.put_units.new.sink begin (ps ++ put) p c.in-Err.fault)) all (c.in-Err.ensures.err begin ps steps h k)
