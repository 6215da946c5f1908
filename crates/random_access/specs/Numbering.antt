-- Whether a unit of video, or the front of one, shows that the numbers of its picture go on from the pictures before it, so that a decoder
-- needs those: the first coded slice tells, by the nal_unit_type of its NAL unit. ISO/IEC 11172-2 and 13818-2 number the pictures of each group
-- anew (13818-2, 6.3.9, temporal_reference).
use Rattle.std.specs.Prelude.{ℕ, ◌/◌, ◌%◌, Bool, true, false, ◌&&◌, ◌||◌, ◌==◌, if◌then◌else◌, List, [], ◌∷◌, Option, None, Some, nat_le, nat_lt, length, slice_index}
use Rattle.std.specs.Option.{option_or}
use Rattle.random_access.specs.Marks.{video_of}
use Rattle.random_access.specs.declared.coding.VideoCoding.{VideoCoding}
use Rattle.random_access.specs.declared.coding.VideoCoding.TheVariants.{Mpeg, Avc, Hevc}
use Rattle.random_access.specs.declared.numbering.Numbering.{Numbering}
use Rattle.random_access.specs.declared.numbering.Numbering.TheVariants.{Anew, Continued}

-- A NAL unit whose first byte this is has a coded slice of a picture that begins anew: nal_unit_type 5, of an IDR picture (ISO/IEC
-- 14496-10, table 7-1); or nal_unit_type 16 to 20, of a BLA or an IDR picture (ISO/IEC 23008-2, table 7-1). forbidden_zero_bit is 0.
abbrev pub is_anew : VideoCoding → ℕ → Bool
is_anew Mpeg b = false
is_anew Avc b = nat_lt b 128 && (b % 32 == 5)
is_anew Hevc b = nat_lt b 128 && (nat_le 16 (b / 2) && nat_le (b / 2) 20)

-- It has one of another picture: nal_unit_type 1, a slice, or 2 to 4, its data partitions A to C (14496-10, table 7-1); or nal_unit_type 0
-- to 9, of a trailing, a TSA, an STSA or a leading picture, or 21, of a CRA picture (23008-2, table 7-1).
abbrev pub is_continued : VideoCoding → ℕ → Bool
is_continued Mpeg b = false
is_continued Avc b = nat_lt b 128 && (nat_le 1 (b % 32) && nat_le (b % 32) 4)
is_continued Hevc b = nat_lt b 128 && (nat_le (b / 2) 9 || (b / 2 == 21))

abbrev pub numbering_by : VideoCoding → ℕ → Option Numbering
numbering_by coding b = if is_anew coding b then Some Anew else (if is_continued coding b then Some Continued else None)

-- bytes begin with a start code prefix 00 00 01 and the first byte of such a NAL unit
abbrev pub numbering_at : VideoCoding → List ℕ → Option Numbering
numbering_at coding bs = if nat_le 4 (length bs)
    && ((slice_index bs 0 == 0) && ((slice_index bs 1 == 0) && (slice_index bs 2 == 1))) then numbering_by coding (slice_index bs 3) else None

-- THE FIRST coded slice in bytes
unfoldable pub first_numbering : VideoCoding → List ℕ → Option Numbering
first_numbering coding [] = None
first_numbering coding (b ∷ bs) = option_or (numbering_at coding (b ∷ bs)) (first_numbering coding bs)

abbrev pub goes_on : Option Numbering → Bool
goes_on None = false
goes_on (Some Anew) = false
goes_on (Some Continued) = true

-- THE UNIT SHOWS, in the video behind its PES header, that its picture of this coding continues the numbers of those before it
abbrev pub continues : VideoCoding → List ℕ → Bool
continues coding unit = goes_on (first_numbering coding (video_of unit))
