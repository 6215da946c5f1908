-- What a library holds, by number, and what is asked of that.
use Rattle.std.specs.Prelude.{◌≡◌, ℕ, ◌<◌, ℤ, List, length, map, Bool, false, ◌==◌, if◌then◌else◌, nat_eq, Option, None, Some, option_map}
use Rattle.std.specs.List.{AllByRecursion}
use Rattle.indexmap.specs.IndexMap.{get}
use Rattle.psi_tables.specs.declared.stream.Stream.{Stream}
use Rattle.ad_library.specs.declared.ad_stream.AdStream.{AdStream}
use Rattle.ad_library.specs.declared.advert.Advert.{Advert}
use Rattle.ad_library.specs.declared.library.AdLibrary.{AdLibrary}
use Rattle.ad_library.specs.Advertisements.{AdvertUnit, AdvertStream, Advertisement, slice, fits}
use Rattle.ad_library.specs.Storing.{on_line}
use Rattle.ad_library.specs.Placing.{units_at}

-- an advertisement, by its places and bytes
abbrev pub stream_seen : {A : Type 0} → AdStream A → AdvertStream
stream_seen s = record { kind = s.kind; units = units_at s.zero s.places.items s.bytes.items }

abbrev pub advert_seen : {A : Type 0} → Advert A → Advertisement
advert_seen a = record { zero = on_line a.zero; streams = map stream_seen a.streams.items }

-- WHAT IS FILED under a number
abbrev pub held : {A : Type 0} → AdLibrary A → ℕ → Option Advertisement
held library id = option_map advert_seen (get nat_eq library.adverts id)

-- what is filed under each number, with one more
abbrev pub filed : (ℕ → Option Advertisement) → ℕ → Option Advertisement → ℕ → Option Advertisement
filed before id ad other = if other == id then ad else before other

-- each unit of a stream has a byte, as a PES packet has: its packet_start_code_prefix, for one (ISO/IEC 13818-1, 2.4.3.6)
abbrev pub HasBytes : AdvertStream → Type 0
HasBytes s = AllByRecursion (λ (u : AdvertUnit). 0 < length u.payload) s.units

-- so it is in each advertisement that is filed
abbrev pub IsLibrary : (ℕ → Option Advertisement) → Type 0
IsLibrary filed = (id : ℕ) (ad : Advertisement) → filed id ≡ Some ad → AllByRecursion HasBytes ad.streams

-- of what is filed under a number, if anything is
abbrev pub fits_held : Option Advertisement → List Stream → ℕ → Bool
fits_held None streams length = false
fits_held (Some ad) streams length = fits ad streams length

abbrev pub slice_held : Option Advertisement → ℕ → ℕ → ℕ → Option (List AdvertUnit)
slice_held None kind k length = None
slice_held (Some ad) kind k length = slice ad kind k length

abbrev pub zero_held : Option Advertisement → Option ℤ
zero_held ad = option_map (λ (a : Advertisement). a.zero) ad
