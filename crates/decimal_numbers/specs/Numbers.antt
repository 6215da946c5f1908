-- Decimal numbers as options are given: digits alone.
use Rattle.std.specs.Prelude.{ℕ, List, length, Bool, ◌&&◌, nat_lt, if◌then◌else◌, Option, Some, None, option_and_then}
use Rattle.std.specs.List.{list_all}
use Rattle.std.specs.Char.{is_ascii_digit}
use Rattle.std.specs.Str.Parse.{digits_value}

-- at least one decimal digit, and nothing else
abbrev pub is_number : List ℕ → Bool
is_number text = nat_lt 0 (length text) && list_all is_ascii_digit text

-- the number of the digits, where it is below the limit
abbrev pub number_below : List ℕ → ℕ → Option ℕ
number_below text limit =
    if is_number text && nat_lt (digits_value 10 text) limit then Some (digits_value 10 text) else None

-- and at least this
abbrev pub number_within : List ℕ → ℕ → ℕ → Option ℕ
number_within text least limit =
    option_and_then (λ n. if nat_lt n least then None else Some n) (number_below text limit)
