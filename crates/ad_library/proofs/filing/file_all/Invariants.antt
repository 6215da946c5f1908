use Rattle.std.proofs.Common.{◌≡◌, List, Some, map, true, length}
use Rattle.std.specs.List.{list_all}
use Rattle.std.specs.Vec.Iter.{into_iter_items, into_iter_len}
use Rattle.ad_library.specs.Advertisements.{KeptStream, zero_of}
use Rattle.ad_library.specs.Storing.{on_line}
use Rattle.ad_library.specs.Filing.{AllStored}
use Rattle.ad_library.specs.Library.{stream_seen}
use Rattle.ad_library.specs.Zeros.{has_zero}
use Rattle.ad_library.proofs.FiledLemmas.{NoneBehind, FiledSo}
use Rattle.ad_library.proofs.filing.file_all.Given as goal

abbrev pub invariant-loop-stream : goal.invariant-loop-stream
invariant-loop-stream g l = record {
  next : (goal.iterator-loop-stream g).can_next l.stream-iterator;
  finite : (goal.iterator-loop-stream g).is_finite l.stream-iterator;
  size : into_iter_len l.stream-iterator ≡ length (into_iter_items l.stream-iterator);
  same : list_all (has_zero l.fn.zero) l.streams.items ≡ true;
  some : NoneBehind (into_iter_items l.stream-iterator) l.fn.zero;
  done : (ks : List KeptStream) → AllStored l.fn.gathered.items ks → zero_of ks ≡ Some (on_line l.fn.zero)
      → FiledSo (map stream_seen l.streams.items) (into_iter_items l.stream-iterator) l.fn.zero ks;
}
