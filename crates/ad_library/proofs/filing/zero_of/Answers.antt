use Rattle.std.proofs.Common.{◌∙◌, ap}
use Rattle.std.specs.Prelude.{option_map}
use Rattle.ad_library.specs.Advertisements.{lower_of}
use Rattle.ad_library.specs.Storing.{on_line}
use Rattle.ad_library.specs.Filing.{least_of_places}
use Rattle.ad_library.proofs.FiledLemmas.{one_lowest}
use Rattle.ad_library.proofs.filing.zero_of.Goals as goal

pub loop-stream-preserved : goal.loop-stream-preserved
loop-stream-preserved g c = λ ks s.
    one_lowest _ _ c.in-Some.stream.now _ _ ks c.in-Some.ensures.cases.0 (c.loop-stream.invariant ks s)
    (c.lower_of-least.ensures ∙ ap (λ ps. lower_of (option_map on_line c.loop-stream.least) (least_of_places ps)) c.as_slice.ensures.value)
