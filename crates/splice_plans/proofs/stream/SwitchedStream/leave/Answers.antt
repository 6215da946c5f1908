use Rattle.std.proofs.Common.{◌≡◌, false, rules}
use Rattle.std.specs.Prelude.{is_some}
use Rattle.std.proofs.lemmas.Result.{IfErr-weaker}
use Rattle.ts_packet.specs.Fields.{payload}
use Rattle.splice_plans.proofs.CountingLemmas.{stays-out}
use Rattle.splice_plans.proofs.stream.SwitchedStream.leave.Goals as goal

pub returns-then-not-has_payload-clause-err : goal.returns-then-not-has_payload-clause-err
returns-then-not-has_payload-clause-err g c = λ start ps steps h k.
    let none : is_some (payload c.args.packet.now) ≡ false = search (rules, c.if-not-has_payload.true, c.has_payload.ensures) in
    IfErr-weaker c.keep.result _ _ (λ f fails. (_, stays-out c.args.is_repeat c.args.packet.now steps none, fails)) (c.keep.ensures.err start ps steps h k)
