-- Where a break ends.
use Rattle.std.specs.Prelude.{◌≡◌, ℕ, ◌+◌, ◌*◌, ◌^◌, ◌<◌, ◌≤◌, true, List, Option, None, Some}
use Rattle.break_choices.specs.declared.pictures.Picture.{Picture}
use Rattle.break_choices.specs.declared.placing.Placed.{Placed}
use Rattle.break_choices.specs.declared.endings.Ending.{Ending}
use Rattle.break_choices.specs.Pictures.{IsOneOf}
use Rattle.break_choices.specs.Cuts.{CutsBefore, named_time}

-- so many tenths of a second lie within half a second of so many milliseconds, and can be asked for, in 16 bits
abbrev pub IsNearLength : ℕ → ℕ → Type 0
IsNearLength tenths long = (1 ≤ tenths) × (tenths < 2 ^ 16) × (100 * tenths ≤ long + 500) × (long ≤ 100 * tenths + 500)

-- A CLEAN CUT at a time: it falls just before this entry picture of the video
pub record IsCleanAt (ps : List Picture) (time : ℕ) (p : Picture) : Type 0 where
  pub of : IsOneOf ps p
  pub clean : p.is_clean ≡ true
  pub cuts : CutsBefore ps p time

abbrev pub IfClean : List Picture → ℕ → Option Picture → Type 0
IfClean ps time None = Unit {0}
IfClean ps time (Some p) = IsCleanAt ps time p

-- when the break starts and ends: a tenth of a second is 9,000 ticks
abbrev pub break_start : Placed → Ending → ℕ
break_start x e = named_time x.mark.high e.pre_roll

abbrev pub break_end : Placed → Ending → ℕ
break_end x e = break_start x e + 9000 * e.tenths

-- THE BREAK starts just before the picture at which it was placed, and ends, if it is so called, cleanly
pub record BreakEndsAt (ps : List Picture) (x : Placed) (long : ℕ) (e : Ending) : Type 0 where
  pub some : 1 ≤ e.pre_roll
  pub fits : e.pre_roll < 2 ^ 16
  pub starts : CutsBefore ps x.picture (break_start x e)
  pub near : IsNearLength e.tenths long
  pub ends : IfClean ps (break_end x e) e.clean
