use Rattle.std.proofs.Common.{◌∙◌, ap}
use Rattle.ad_library.specs.Placing.{are_placed, tops_rise}
use Rattle.ad_library.proofs.PlacingLemmas.{tops_rising}
use Rattle.ad_library.proofs.ad_stream.AdStream.slice.Goals as goal

pub invariant_of-result : goal.invariant_of-result
invariant_of-result g c =
    let own = c.args.self.now in
    record {
      placed = ap (λ ps. are_placed own.zero ps c.as_slice-2.result.now) c.as_slice.ensures.value ∙ ap (are_placed own.zero own.places.items) c.as_slice-2.ensures.value ∙ own.placed;
      rising = ap tops_rise c.as_slice.ensures.value ∙ tops_rising 0 own.places.items own.tops;
    }
