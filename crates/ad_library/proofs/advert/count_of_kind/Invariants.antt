use Rattle.std.proofs.Common.{◌≡◌, ◌+◌, ◌≤◌, length}
use Rattle.ad_library.specs.Advertisements.{count_of_kind}
use Rattle.ad_library.proofs.advert.count_of_kind.Given as goal

abbrev pub invariant-loop-stream : goal.invariant-loop-stream
invariant-loop-stream l = record {
  count : l.count + count_of_kind l.kind l.rest ≡ count_of_kind l.kind l.streams;
  below : l.count + length l.rest ≤ length l.streams;
}

abbrev pub decreases-loop-stream : goal.decreases-loop-stream
decreases-loop-stream l = length l.rest
