-- Whether an advertisement opens with a picture whose numbers go on from pictures before it, which a decoder then lacks.
use Rattle.std.specs.Prelude.{ℕ, Bool, false, List, [], ◌∷◌, Option, None, Some}
use Rattle.psi_tables.specs.declared.stream.Stream.{Stream}
use Rattle.ad_library.specs.Advertisements.{AdvertUnit, Advertisement}
use Rattle.ad_library.specs.Library.{slice_held}
use Rattle.random_access.specs.declared.coding.VideoCoding.{VideoCoding}
use Rattle.random_access.specs.Marks.{coding_of}
use Rattle.random_access.specs.Numbering.{continues}

-- the first of some units shows it
abbrev pub first_continues : VideoCoding → Option (List AdvertUnit) → Bool
first_continues coding None = false
first_continues coding (Some []) = false
first_continues coding (Some (u ∷ us)) = continues coding u.payload

-- those in the place of a video whose coding is known do, or else of another stream
abbrev pub or_opens : Option Advertisement → ℕ → ℕ → Option VideoCoding → Bool → Bool
or_opens ad kind length None other = other
or_opens ad kind length (Some coding) other = first_continues coding (slice_held ad kind 0 length)

-- THE ADVERTISEMENT OPENS SO in the place of the first of these streams that is video whose coding is known, for so many ticks. None before
-- that is of its type, so the first stream of this type takes its place.
abbrev pub opens_continued : Option Advertisement → List Stream → ℕ → Bool
opens_continued ad [] length = false
opens_continued ad (s ∷ ss) length = or_opens ad s.kind length (coding_of s.kind) (opens_continued ad ss length)
