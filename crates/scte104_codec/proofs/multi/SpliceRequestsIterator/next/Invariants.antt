use Rattle.std.proofs.Common.{◌≡◌, length}
use Rattle.scte104_codec.specs.OperationsLeft.{operations_left}
use Rattle.scte104_codec.specs.RequestsLeft.{splice_requests_left}
use Rattle.scte104_codec.proofs.multi.SpliceRequestsIterator.next.Given as goal

-- no request that is to come is behind
abbrev pub invariant-loop-op : goal.invariant-loop-op
invariant-loop-op l = splice_requests_left l.self ≡ splice_requests_left l.initial.self

abbrev pub decreases-loop-op : goal.decreases-loop-op
decreases-loop-op l = length (operations_left l.self.operations)
