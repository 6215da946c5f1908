-- Cuts between pictures. A request names the greatest time before its packet and 90 ticks for each millisecond of its pre_roll_time,
-- so that a start can be any of every 90th tick: of those past one picture and up to the next each cuts between these two.
use Rattle.std.specs.Prelude.{◌⊎◌, ℕ, ◌+◌, ◌-◌, ◌*◌, ◌^◌, ◌<◌, ◌≤◌, nat_le, min, List, [], ◌∷◌, if◌then◌else◌, Option, None, Some}
use Rattle.break_choices.specs.declared.pictures.Picture.{Picture}
use Rattle.break_choices.specs.declared.slots.Slot.{Slot}
use Rattle.break_choices.specs.declared.pre_rolls.Mark.{Mark}
use Rattle.break_choices.specs.declared.pre_rolls.PreRolls.{PreRolls}
use Rattle.break_choices.specs.Pictures.{EachOf}

-- NO PICTURE LIES in the slot: each is up to its front or from its end on
abbrev pub PartsPictures : Slot → List Picture → Type 0
PartsPictures slot ps = EachOf (λ q. (q.time ≤ slot.after) ⊎ (slot.until ≤ q.time)) ps

-- the time is in the slot
abbrev pub IsIn : Slot → ℕ → Type 0
IsIn slot time = (slot.after < time) × (time ≤ slot.until)

-- A CUT AT THIS TIME falls just before the picture: of all pictures those of lesser time are below the cut, and no others
pub record CutsBefore (ps : List Picture) (p : Picture) (time : ℕ) : Type 0 where
  pub until : time ≤ p.time
  pub parts : EachOf (λ q. (q.time < time) ⊎ (p.time ≤ q.time)) ps

-- what a pre-roll of so many milliseconds names, at this greatest time
abbrev pub named_time : ℕ → ℕ → ℕ
named_time high roll = high + 90 * roll

-- each of these pre-rolls names a time of the slot; all are of 16 bits, and not 0
pub record CanRoll (high : ℕ) (slot : Slot) (rolls : PreRolls) : Type 0 where
  pub some : 1 ≤ rolls.least
  pub order : rolls.least ≤ rolls.most
  pub fits : rolls.most < 2 ^ 16
  pub least : slot.after < named_time high rolls.least
  pub most : named_time high rolls.most ≤ slot.until

-- no pre-roll names one
abbrev pub CannotRoll : ℕ → Slot → Type 0
CannotRoll high slot = (roll : ℕ) → 1 ≤ roll → roll < 2 ^ 16 → IsIn slot (named_time high roll) → ⊥

-- the mark lies 360,000 ticks, 4 seconds, before the time
abbrev pub is_ahead : ℕ → Mark → Type 0
is_ahead time m = m.high + 360000 ≤ time

-- the last of the marks that lies so far ahead, or else this one
unfoldable pub mark_from : ℕ → Mark → List Mark → Mark
mark_from time best [] = best
mark_from time best (m ∷ ms) = mark_from time (if nat_le (min (m.high + 360000) (2 ^ 64 - 1)) time then m else best) ms

-- THE MARK of a request that names this time
abbrev pub mark_ahead : ℕ → List Mark → Option Mark
mark_ahead time [] = None
mark_ahead time (m ∷ ms) = Some (mark_from time m ms)
