use Rattle.std.proofs.Common.{◌≡◌, map, length, true}
use Rattle.std.specs.Prelude.{filter, slice_get}
use Rattle.ad_library.specs.Advertisements.{is_of_kind}
use Rattle.std.specs.List.{list_all}
use Rattle.ad_library.specs.Zeros.{has_zero}
use Rattle.ad_library.specs.Library.{stream_seen}
use Rattle.ad_library.proofs.advert.Advert.stream.Given as goal

abbrev pub invariant-loop-stream : goal.invariant-loop-stream
invariant-loop-stream g l = record {
  at : slice_get (filter (is_of_kind l.kind) (map stream_seen l.rest)) l.before ≡ slice_get (filter (is_of_kind l.kind) (map stream_seen l.fn.self.streams.items)) l.k;
  same : list_all (has_zero l.fn.self.zero) l.rest ≡ true;
}

abbrev pub decreases-loop-stream : goal.decreases-loop-stream
decreases-loop-stream g l = length l.rest
