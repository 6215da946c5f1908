-- How an edge of a break lies.
use Rattle.std.specs.Prelude.{◌≡◌, ℕ, ◌-◌, Bool, true, false, List, Option, None, Some, MatchOption}
use Rattle.break_choices.specs.declared.pictures.Picture.{Picture}
use Rattle.break_choices.specs.declared.pictures.Wanted.TheVariants as wanted
use Rattle.break_choices.specs.Pictures.{IsFirstFrom, IsLastBefore, NoPictureFrom, NoPictureBefore}
use Rattle.break_plans.specs.declared.planned.Edge.{Edge}
use Rattle.break_plans.specs.declared.planned.Edge.TheVariants.{Clean, Rough}

-- so many ticks before a time lies the last picture at which a cut is clean; so many behind it the first one that is not before it
abbrev pub IsWayBefore : List Picture → ℕ → ℕ → Type 0
IsWayBefore ps time way = (p : Picture) × IsLastBefore wanted.Clean time ps p × (way ≡ time - p.time)

abbrev pub IsWayBehind : List Picture → ℕ → ℕ → Type 0
IsWayBehind ps time way = (p : Picture) × IsFirstFrom wanted.Clean time ps p × (way ≡ p.time - time)

-- there is a picture, and a cut at it is clean
abbrev pub is_clean_one : Option Picture → Bool
is_clean_one None = false
is_clean_one (Some p) = p.is_clean

-- THE EDGE of a cut at a time that is made for a picture: clean where it is clean there, and else how far the nearest clean ones lie
abbrev pub IsEdge : List Picture → ℕ → Option Picture → Edge → Type 0
IsEdge ps time p Clean = is_clean_one p ≡ true
IsEdge ps time p (Rough before behind) = (is_clean_one p ≡ false)
    × MatchOption before (NoPictureBefore wanted.Clean time ps) (IsWayBefore ps time)
    × MatchOption behind (NoPictureFrom wanted.Clean time ps) (IsWayBehind ps time)
