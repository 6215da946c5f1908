use Rattle.std.proofs.Common.{◌≡◌, is_some, true, sym, ◌∙◌}
use Rattle.scte104_codec.specs.Operations.{operations_in}
use Rattle.scte104_codec.proofs.OperationLemmas.{formed_left}
use Rattle.scte104_codec.proofs.operations.Operations.all.Goals as goal

pub invariant_of-result : goal.invariant_of-result
invariant_of-result c =
    let read : is_some (operations_in c.args.count c.args.bytes.now) ≡ true = sym c.fill.ensures ∙ c.if-fill.true in
    record { well_formed = formed_left c.args.count c.args.bytes.now read }
