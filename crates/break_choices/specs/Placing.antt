-- Where something can happen: at an entry picture, by a request before a packet.
use Rattle.std.specs.Prelude.{◌≡◌, ℕ, ◌+◌, ◌<◌, ◌≤◌, List, Option, None, Some, MatchOption}
use Rattle.break_choices.specs.declared.pictures.Picture.{Picture}
use Rattle.break_choices.specs.declared.pictures.Wanted.TheVariants.{Entry}
use Rattle.break_choices.specs.declared.pre_rolls.Mark.{Mark}
use Rattle.break_choices.specs.declared.placing.Placed.{Placed}
use Rattle.break_choices.specs.declared.placing.Unplaced.{Unplaced}
use Rattle.break_choices.specs.declared.placing.Unplaced.TheVariants.{NoPicture, NoPacket}
use Rattle.break_choices.specs.Pictures.{IsFirstFrom, IsLastBefore, NoPictureFrom, NoPictureBefore}
use Rattle.break_choices.specs.Cuts.{PartsPictures, CanRoll, mark_ahead}

-- NO PICTURE LIES IN THE SLOT, which ends at the picture, and each of the pre-rolls names, before the packet, a time of it
pub record StandsAt (ps : List Picture) (x : Placed) : Type 0 where
  pub until : x.slot.until ≡ x.picture.time
  pub parts : PartsPictures x.slot ps
  pub rolls : CanRoll x.mark.high x.slot x.pre_rolls

-- PLACED at the first entry picture at or past a time, within 900,000 ticks, 10 seconds, of it, and before the packet that is
-- chosen for it
pub record IsPlaced (ps : List Picture) (ms : List Mark) (at : ℕ) (x : Placed) : Type 0 where
  pub picture : IsFirstFrom Entry at ps x.picture
  pub near : x.picture.time ≤ at + 900000
  pub mark : mark_ahead x.slot.after ms ≡ Some x.mark
  pub stands : StandsAt ps x

-- the nearest on either side, where there are such
abbrev pub NearestBehind : List Picture → ℕ → Option Picture → Type 0
NearestBehind ps at p = MatchOption p (NoPictureFrom Entry at ps) (IsFirstFrom Entry at ps)

abbrev pub NearestBefore : List Picture → ℕ → Option Picture → Type 0
NearestBefore ps at p = MatchOption p (NoPictureBefore Entry at ps) (IsLastBefore Entry at ps)

-- farther than 10 seconds
abbrev pub IsFar : ℕ → Option Picture → Type 0
IsFar at None = Unit {0}
IsFar at (Some p) = at + 900000 < p.time

-- NOT PLACED: there is no such picture; or of the mark that is chosen for it no request names a time just before it
abbrev pub IsUnplaced : List Picture → List Mark → ℕ → Unplaced → Type 0
IsUnplaced ps ms at (NoPicture before behind) = NearestBefore ps at before × NearestBehind ps at behind × IsFar at behind
IsUnplaced ps ms at (NoPacket p) = IsFirstFrom Entry at ps p × (p.time ≤ at + 900000)
