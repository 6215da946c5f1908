use Rattle.std.proofs.Common.{◌≡◌, ◌≤◌, ◌++◌}
use Rattle.arrayvec.specs.ArrayVec.{array_vec_len}
use Rattle.scte104_codec.specs.AvailIdsLeft.{avail_ids_left}
use Rattle.scte104_codec.proofs.multi.add_ids.Given as goal

-- the ids so far are there, and the others are to come
abbrev pub invariant-loop-id : goal.invariant-loop-id
invariant-loop-id g l = (array_vec_len l.ids ≤ g.row.N) × (l.ids.items ++ avail_ids_left l.id-iterator ≡ l.initial.ids.items ++ avail_ids_left l.fn.more)
