-- What holds of slices for two lengths, as where a break ends early.
use Rattle.std.specs.List.{AllByRecursion}
use Rattle.std.specs.Prelude.{◌≡◌, ℕ, ◌≤◌, ◌≤ℤ◌, List, [], ◌∷◌, ◌++◌}
use Rattle.ad_library.specs.Advertisements.{AdvertUnit, slice_of}

-- the slice for a shorter length is what that for a longer one has below it
abbrev pub ShorterIsFilter : Type 0
ShorterIsFilter = (short long : ℕ) (us : List AdvertUnit) → short ≤ long → slice_of short (slice_of long us) ≡ slice_of short us

-- no unit lies before one that comes earlier
abbrev pub OffsetsRise : List AdvertUnit → Type 0
OffsetsRise [] = Unit {0}
OffsetsRise (u ∷ us) = AllByRecursion (λ (v : AdvertUnit). u.offset ≤ℤ v.offset) us × OffsetsRise us

-- where the offsets rise it is a front of that one
abbrev pub ShorterIsFront : Type 0
ShorterIsFront = (short long : ℕ) (us : List AdvertUnit) → short ≤ long → OffsetsRise us → (more : List AdvertUnit) × (slice_of long us ≡ slice_of short us ++ more)
