use Rattle.std.proofs.Common.{◌∙◌, ap}
use Rattle.ad_library.specs.Advertisements.{AdvertStream}
use Rattle.ad_library.specs.Placing.{are_placed, tops_are, units_at}
use Rattle.ad_library.specs.Storing.{places_of}
use Rattle.ad_library.proofs.FilingLemmas.{stored_placed, tops_stored}
use Rattle.ad_library.proofs.filing.file.Goals as goal

pub invariant_of-result : goal.invariant_of-result
invariant_of-result g c =
    let (us, h, a) = c.requires in
    let z = c.args.zero in
    record {
      placed = ap (λ ps. are_placed z ps c.args.stream.store.bytes.items) h.places ∙ ap (are_placed z (places_of us)) h.bytes ∙ (stored_placed z us a h.whole).0;
      tops = ap (tops_are 0) h.places ∙ tops_stored us;
    }

pub returns-clause-units : goal.returns-clause-units
returns-clause-units g c = λ us h a.
    let z = c.args.zero in
    ap (λ us. let x : AdvertStream = record { kind = c.args.stream.kind; units = us } in x)
    (ap (λ ps. units_at z ps c.args.stream.store.bytes.items) h.places ∙ ap (units_at z (places_of us)) h.bytes ∙ (stored_placed z us a h.whole).1)
