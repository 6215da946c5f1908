-- What the pictures that are read stand for.
use Rattle.std.specs.Prelude.{◌≡◌, ℕ, List, [], ◌∷◌, ◌++◌, Option, None, Some}
use Rattle.ts_packet.specs.Following.{Follows}
use Rattle.break_choices.specs.declared.pictures.Picture.{Picture}
use Rattle.break_timelines.specs.declared.pictures.OpenUnit.{OpenUnit}
use Rattle.break_timelines.specs.declared.pictures.Pictures.{Pictures}
use Rattle.break_timelines.specs.Timelines.{judged, rest_of, pictures_behind}

-- it has followed the unit of this PID over these packets, newest first, all since the begin of the unit
pub record FollowsUnit (o : OpenUnit) (pid : ℕ) (since : List (List ℕ)) : Type 0 where
  pub same : o.pid ≡ pid
  pub follows : Follows o.follower o.last pid since

-- what is said of each unit that it has followed
abbrev pub OfUnit : OpenUnit → (ℕ → List (List ℕ) → Type 0) → Type 0
OfUnit o says = (pid : ℕ) (since : List (List ℕ)) → FollowsUnit o pid since → says pid since

-- the pictures, with the one whose unit is open and has these bytes
abbrev pub with_open : List Picture → Option OpenUnit → List ℕ → List Picture
with_open ps None unit = ps
with_open ps (Some o) unit = ps ++ judged o.picture unit ∷ []

-- whatever comes behind, they are all pictures with the one whose unit is open, by its bytes so far and those to come
abbrev pub Settle : List Picture → Option OpenUnit → List ℕ → ℕ → List (List ℕ) → Type 0
Settle ps None unit program past = (after : List (List ℕ)) → pictures_behind program past after ≡ ps
Settle ps (Some o) unit program past = (pid : ℕ) × (since : List (List ℕ)) × FollowsUnit o pid since
    × ((after : List (List ℕ)) → pictures_behind program past after ≡ ps ++ judged o.picture (unit ++ rest_of program pid since past after) ∷ [])

-- THEY ARE THE PICTURES of the program in these packets, newest first
abbrev pub ArePictures : Pictures → ℕ → List (List ℕ) → Type 0
ArePictures x program past = Settle x.settled.items x.unfinished x.unit.items program past
