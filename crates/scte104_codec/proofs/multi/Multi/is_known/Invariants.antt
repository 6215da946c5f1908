use Rattle.std.proofs.Common.{◌≡◌}
use Rattle.scte104_codec.specs.OperationsLeft.{operations_left}
use Rattle.scte104_codec.specs.Asked.{all_known}
use Rattle.scte104_codec.proofs.multi.Multi.is_known.Given as goal

-- the operations so far are known
abbrev pub invariant-loop-op : goal.invariant-loop-op
invariant-loop-op l = all_known (operations_left l.op-iterator) ≡ all_known (operations_left l.self.operations)
