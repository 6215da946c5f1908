use Rattle.std.proofs.Common.{◌≡◌, ◌≤◌, ◌++◌}
use Rattle.arrayvec.specs.ArrayVec.{array_vec_len}
use Rattle.scte104_codec.specs.OperationsLeft.{operations_left}
use Rattle.scte104_codec.specs.Asked.{avail_ids}
use Rattle.scte104_codec.proofs.multi.Multi.avail_ids.Given as goal

-- the ids of the operations so far are there, and the others are to come
abbrev pub invariant-loop-op : goal.invariant-loop-op
invariant-loop-op g l = (array_vec_len l.ids ≤ g.row.N) × (l.ids.items ++ avail_ids (operations_left l.op-iterator) ≡ avail_ids (operations_left l.self.operations))
