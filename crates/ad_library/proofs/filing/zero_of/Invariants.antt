use Rattle.std.proofs.Common.{length, List}
use Rattle.std.specs.Prelude.{option_map}
use Rattle.ad_library.specs.Advertisements.{KeptStream}
use Rattle.ad_library.specs.Storing.{on_line}
use Rattle.ad_library.specs.Filing.{AllStored}
use Rattle.ad_library.proofs.FiledLemmas.{LowestSo}
use Rattle.ad_library.proofs.filing.zero_of.Given as goal

abbrev pub invariant-loop-stream : goal.invariant-loop-stream
invariant-loop-stream g l = (ks : List KeptStream) → AllStored l.fn.streams ks → LowestSo (option_map on_line l.least) l.rest ks

abbrev pub decreases-loop-stream : goal.decreases-loop-stream
decreases-loop-stream g l = length l.rest
