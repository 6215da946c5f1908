use Rattle.std.proofs.Common.{◌+◌, ◌-◌, ◌≤◌, refl, arith}
use Rattle.std.specs.Prelude.{slice_index_or}
use Rattle.program_follower.specs.PidUses.{IsTablePid}
use Rattle.program_follower.proofs.PlaceLemmas.{HasPlacesFromElsewhere, one_elsewhere, no_place_elsewhere}
use Rattle.program_follower.proofs.UseLemmas.{stream_added, stream_kept, stream_rest}
use Rattle.program_follower.proofs.pid_uses.PidUses.add_streams.Goals as goal

pub loop-index-preserved : goal.loop-index-preserved
loop-index-preserved c =
    let numbers = c.loop-index.self in
    let new = c.add_stream.new.self in
    let ss = c.args.streams.now in
    let n = c.loop-index.index - 1 in
    let s = c.index-streams-index.result in
    let pid = (slice_index_or ss n s).pid in (
      omega arith,
      λ other is. stream_added (λ ns. IsTablePid (slice_index_or ns other 0)) numbers new pid (n + 1) c.add_stream.ensures.new
          (λ above. c.loop-index.invariant.1 other is) (λ below. stream_kept numbers pid (n + 1) other below (c.loop-index.invariant.1 other is)),
      λ other below. stream_added (λ ns. slice_index_or ns other 0 ≤ 8) numbers new pid (n + 1) c.add_stream.ensures.new
          (λ above. c.loop-index.invariant.2 other below)
          (λ free. stream_rest numbers pid (n + 1) other (omega arith) (omega arith) (c.loop-index.invariant.2 other below)),
      λ has. stream_added (λ ns. HasPlacesFromElsewhere ns ss n) numbers new pid (n + 1) c.add_stream.ensures.new
          (λ above. no_place_elsewhere ss numbers n c.loop-index.index pid s (omega arith) refl (omega arith) above (c.loop-index.invariant.3 has))
          (λ below. one_elsewhere ss numbers n c.loop-index.index pid s (omega arith) refl (omega arith) (omega arith) (c.loop-index.invariant.3 has)),
    )
