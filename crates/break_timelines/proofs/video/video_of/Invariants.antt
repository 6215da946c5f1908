use Rattle.std.proofs.Common.{◌≡◌, ◌+◌, length}
use Rattle.break_timelines.specs.Video.{video_from}
use Rattle.break_timelines.proofs.video.video_of.Given as goal

-- the video of all streams is that of those that are left, from the place on
abbrev pub invariant-loop-stream : goal.invariant-loop-stream
invariant-loop-stream l = record {
  same : video_from l.index l.rest ≡ video_from 0 l.fn.streams;
  place : l.index + length l.rest ≡ length l.fn.streams;
}

abbrev pub decreases-loop-stream : goal.decreases-loop-stream
decreases-loop-stream l = length l.rest
