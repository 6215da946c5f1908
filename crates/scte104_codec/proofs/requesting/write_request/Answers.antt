use Rattle.std.proofs.Common.{subst, sym, List, ℕ, arith}
use Rattle.scte104_codec.specs.Head.{HeadFits}
use Rattle.scte104_codec.specs.Requests.{SpliceRequestFits}
use Rattle.scte104_codec.specs.Requesting.{Asks}
use Rattle.scte104_codec.proofs.RequestingLemmas.{asks}
use Rattle.scte104_codec.proofs.requesting.write_request.Goals as goal

pub returns-clause-asks : goal.returns-clause-asks
returns-clause-asks c =
    let head = c.args.head in
    let r = c.args.request in
    let h : HeadFits head = record { as_index = omega arith; number = omega arith; index = omega arith } in
    let fits : SpliceRequestFits r = record { splice_event_id = omega arith; unique_program_id = omega arith; pre_roll_time = omega arith; break_duration = omega arith } in
    subst (λ (bs : List ℕ). Asks bs head r) (sym c.write_asking.ensures) (asks head r h fits)
