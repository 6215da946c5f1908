-- What a library holds.
use Rattle.std.proofs.Common.{◌≡◌, ℕ, List, [], ◌∷◌, true, subst, length}
use Rattle.std.specs.Prelude.{◌<◌, map, nat_eq, Option, None, Some, option_map, slice_range}
use Rattle.std.specs.List.{AllByRecursion}
use Rattle.std.proofs.lemmas.Bool.{and_parts}
use Rattle.indexmap.specs.IndexMap.{get}
use Rattle.ad_library.specs.declared.store.UnitPlace.{UnitPlace}
use Rattle.ad_library.specs.declared.ad_stream.AdStream.{AdStream}
use Rattle.ad_library.specs.declared.advert.Advert.{Advert}
use Rattle.ad_library.specs.declared.library.AdLibrary.{AdLibrary}
use Rattle.ad_library.specs.Advertisements.{AdvertUnit, Advertisement}
use Rattle.ad_library.specs.Placing.{start_or, is_placed, are_placed, units_at}
use Rattle.ad_library.specs.Library.{stream_seen, advert_seen, held, HasBytes, IsLibrary}
use Rattle.ad_library.proofs.PlacingLemmas.{reads, fills}

-- units whose stamps can be read have bytes
units-fill : (least : ℕ) (ps : List UnitPlace) (bs : List ℕ) → are_placed least ps bs ≡ true → AllByRecursion (λ (u : AdvertUnit). 0 < length u.payload) (units_at least ps bs)
units-fill least [] bs h = tt
units-fill least (p ∷ ps) bs h =
    let both = and_parts (is_placed least p (start_or ps (length bs)) bs) (are_placed least ps bs) h in
    (fills (slice_range bs p.start (start_or ps (length bs))) (reads least p (start_or ps (length bs)) bs both.0), units-fill least ps bs both.1)

streams-fill : {A : Type 0} (ss : List (AdStream A)) → AllByRecursion HasBytes (map stream_seen ss)
streams-fill [] = tt
streams-fill (s ∷ ss) = (units-fill s.zero s.places.items s.bytes.items s.placed, streams-fill ss)

seen-fills : {A : Type 0} (o : Option (Advert A)) (ad : Advertisement) → option_map advert_seen o ≡ Some ad → AllByRecursion HasBytes ad.streams
seen-fills None ad e = absurd (cc)
seen-fills (Some a) ad e = let same : advert_seen a ≡ ad = cc in subst (λ (x : Advertisement). AllByRecursion HasBytes x.streams) same (streams-fill a.streams.items)

-- THE UNITS OF A LIBRARY HAVE BYTES, whatever was filed in it
pub held_is_library : {A : Type 0} (library : AdLibrary A) → IsLibrary (held library)
held_is_library library id ad e = seen-fills (get nat_eq library.adverts id) ad e
