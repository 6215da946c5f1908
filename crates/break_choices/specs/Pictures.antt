-- The pictures of a video, in the order of the stream, and the nearest of them to a time. Times are ticks of 90 kHz on one line.
use Rattle.std.specs.Prelude.{◌≡◌, ◌⊎◌, ℕ, ◌<◌, ◌≤◌, Bool, true, not, ◌||◌, nat_lt, nat_le, List, [], ◌∷◌, if◌then◌else◌, Option, None, Some}
use Rattle.break_choices.specs.declared.pictures.Picture.{Picture}
use Rattle.break_choices.specs.declared.pictures.Wanted.{Wanted}
use Rattle.break_choices.specs.declared.pictures.Wanted.TheVariants.{Any, Entry, Clean}

-- the picture is one of these
abbrev pub takes : Wanted → Picture → Bool
takes Any p = true
takes Entry p = p.is_entry
takes Clean p = p.is_clean

-- it is one of the list
abbrev pub IsOneOf : List Picture → Picture → Type 0
IsOneOf [] p = ⊥
IsOneOf (q ∷ qs) p = (p ≡ q) ⊎ IsOneOf qs p

-- this holds of each picture
abbrev pub EachOf : (Picture → Type 0) → List Picture → Type 0
EachOf P [] = Unit {0}
EachOf P (q ∷ qs) = P q × EachOf P qs

-- THE FIRST PICTURE of these that is not before a time, in the order of time
pub record IsFirstFrom (wanted : Wanted) (at : ℕ) (ps : List Picture) (p : Picture) : Type 0 where
  pub of : IsOneOf ps p
  pub taken : takes wanted p ≡ true
  pub from : at ≤ p.time
  pub first : EachOf (λ q. takes wanted q ≡ true → at ≤ q.time → p.time ≤ q.time) ps

-- each of them is before the time
abbrev pub NoPictureFrom : Wanted → ℕ → List Picture → Type 0
NoPictureFrom wanted at ps = EachOf (λ q. takes wanted q ≡ true → q.time < at) ps

-- THE LAST PICTURE of these that is before a time
pub record IsLastBefore (wanted : Wanted) (at : ℕ) (ps : List Picture) (p : Picture) : Type 0 where
  pub of : IsOneOf ps p
  pub taken : takes wanted p ≡ true
  pub before : p.time < at
  pub last : EachOf (λ q. takes wanted q ≡ true → q.time < at → q.time ≤ p.time) ps

-- none of them is before the time
abbrev pub NoPictureBefore : Wanted → ℕ → List Picture → Type 0
NoPictureBefore wanted at ps = EachOf (λ q. takes wanted q ≡ true → at ≤ q.time) ps

-- ---- the same, picture by picture

-- the earlier of the picture and the best so far
abbrev pub or_earlier : Picture → Option Picture → Option Picture
or_earlier p None = Some p
or_earlier p (Some b) = if nat_le b.time p.time then Some b else Some p

abbrev pub earlier_picture : Wanted → ℕ → Option Picture → Picture → Option Picture
earlier_picture wanted at best p = if not (takes wanted p) || nat_lt p.time at then best else or_earlier p best

unfoldable pub first_picture : Wanted → ℕ → Option Picture → List Picture → Option Picture
first_picture wanted at best [] = best
first_picture wanted at best (p ∷ ps) = first_picture wanted at (earlier_picture wanted at best p) ps

-- the later of them
abbrev pub or_later : Picture → Option Picture → Option Picture
or_later p None = Some p
or_later p (Some b) = if nat_le p.time b.time then Some b else Some p

abbrev pub later_picture : Wanted → ℕ → Option Picture → Picture → Option Picture
later_picture wanted at best p = if not (takes wanted p) || nat_le at p.time then best else or_later p best

unfoldable pub last_picture : Wanted → ℕ → Option Picture → List Picture → Option Picture
last_picture wanted at best [] = best
last_picture wanted at best (p ∷ ps) = last_picture wanted at (later_picture wanted at best p) ps
