-- The mark at which something happens at once.
use Rattle.std.specs.Prelude.{ℕ, nat_le, List, [], ◌∷◌, if◌then◌else◌, Option, None, Some}
use Rattle.break_choices.specs.declared.pre_rolls.Mark.{Mark}

-- the first mark whose greatest time is not before a time
abbrev pub first_past : ℕ → List Mark → Option Mark
first_past time [] = None
first_past time (m ∷ ms) = if nat_le time m.high then Some m else first_past time ms
