use Rattle.std.proofs.Common.{◌≡◌, [], subst, sym, List, ℕ, arith}
use Rattle.scte104_codec.specs.Head.{HeadFits}
use Rattle.scte104_codec.specs.Requesting.{AsksPlainly}
use Rattle.scte104_codec.specs.Reading.{message_of, alive}
use Rattle.scte104_codec.proofs.RequestingLemmas.{asks_plainly, alive_asked}
use Rattle.scte104_codec.proofs.requesting.write_alive_request.Goals as goal

pub returns-clause-asks : goal.returns-clause-asks
returns-clause-asks c =
    let h : HeadFits c.args.head = record { as_index = omega arith; number = omega arith; index = omega arith } in
    subst (λ (bs : List ℕ). AsksPlainly bs 3 c.args.head) (sym c.write_plain.ensures) (asks_plainly 3 c.args.head (omega arith) h)

pub returns-clause-read : goal.returns-clause-read
returns-clause-read c =
    let h : HeadFits c.args.head = record { as_index = omega arith; number = omega arith; index = omega arith } in
    subst (λ (bs : List ℕ). message_of bs ≡ alive c.args.head []) (sym c.write_plain.ensures) (alive_asked c.args.head h)
