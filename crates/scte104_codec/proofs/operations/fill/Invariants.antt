use Rattle.std.proofs.Common.{◌≡◌, is_some, ◌-◌}
use Rattle.scte104_codec.specs.Operations.{operations_in}
use Rattle.scte104_codec.proofs.operations.fill.Given as goal

-- what is left of the bytes has what is left of the operations where all of them have all
abbrev pub invariant-loop : goal.invariant-loop
invariant-loop l = is_some (operations_in (l.count - l.counter) l.rest) ≡ is_some (operations_in l.count l.bytes)
