-- What one more thing adds to a count.
use Rattle.std.specs.Prelude.{ℕ, Bool, if◌then◌else◌}

-- one where it is so, else none
abbrev pub one_if : Bool → ℕ
one_if b = if b then 1 else 0
