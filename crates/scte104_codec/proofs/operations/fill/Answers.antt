use Rattle.std.proofs.Common.{◌≡◌, is_some, ◌+◌, ◌-◌, ◌<◌, true, false, sym, ap, ◌∙◌, arith}
use Rattle.scte104_codec.specs.Operations.{operations_in, is_well_formed}
use Rattle.scte104_codec.proofs.OperationLemmas.{fill_ends, fill_breaks, fill_more, fill_done}
use Rattle.scte104_codec.proofs.operations.fill.Goals as goal

pub returns-in_default : goal.returns-in_default
returns-in_default c =
    let left : 0 < c.args.count - c.loop.counter = omega arith in
    sym (fill_ends (c.args.count - c.loop.counter) c.loop.rest.now left (sym c.in_default.ensures)) ∙ c.loop.invariant

pub returns-then-not-has_its_size : goal.returns-then-not-has_its_size
returns-then-not-has_its_size c =
    let left : 0 < c.args.count - c.loop.counter = omega arith in
    let wrong : is_well_formed (record { op = c.in-Some.op; body = c.in-Some.data.now }) ≡ false = cc in
    sym (fill_breaks (c.args.count - c.loop.counter) c.loop.rest.now _ _ left (sym c.in-Some.ensures) wrong) ∙ c.loop.invariant

pub loop-preserved : goal.loop-preserved
loop-preserved c =
    let left : 0 < c.args.count - c.loop.counter = omega arith in
    let right : is_well_formed (record { op = c.in-Some.op; body = c.in-Some.data.now }) ≡ true = cc in
    let more = fill_more (c.args.count - c.loop.counter) c.loop.rest.now _ _ left (sym c.in-Some.ensures) right in
    let fewer : c.args.count - c.loop.counter - 1 ≡ c.args.count - (c.loop.counter + 1) = omega arith in
    ap (λ n. is_some (operations_in n c.in-Some.after.now)) (sym fewer) ∙ sym more ∙ c.loop.invariant

pub returns : goal.returns
returns c =
    let none : c.args.count - c.loop.counter ≡ 0 = omega arith in
    c.is_empty.ensures ∙ sym (fill_done (c.args.count - c.loop.counter) c.loop.rest.now none) ∙ c.loop.invariant
