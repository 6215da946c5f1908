-- `parse` on digits alone.
use Rattle.std.proofs.Common.{◌≡◌, ℕ, ◌<◌, ◌≤◌, ◌^◌, List, length, Bool, true, false, nat_lt, ◌&&◌, if◌then◌else◌, Some, None, Ok, Err, refl, arith, rules}
use Rattle.std.specs.List.{list_all}
use Rattle.std.specs.Char.{is_ascii_digit}
use Rattle.std.specs.Str.Parse.{digits_value, without_leading_plus, IsNumeral}
use Rattle.std.proofs.lemmas.Str.Parse.{parse_digits, IsDigitsTest, IsNumeralModel, numerals_by_value}
use Rattle.std.proofs.lemmas.Bool.{and_parts}
use Rattle.decimal_numbers.specs.Numbers.{is_number}

tells : IsDigitsTest (λ ds. list_all is_ascii_digit ds ≡ true)
tells = search rules

own : IsNumeralModel (λ ds. list_all is_ascii_digit ds ≡ true) (digits_value 10)
own = numerals_by_value _ tells

positive : (text : List ℕ) → is_number text ≡ true → (0 < length text) × (list_all is_ascii_digit text ≡ true)
positive text e = let h : (nat_lt 0 (length text) ≡ true) × (list_all is_ascii_digit text ≡ true) = and_parts (nat_lt 0 (length text)) (list_all is_ascii_digit text) e in (grind (arith, h.0), h.1)

-- a number that is below the limit is given
pub below_limit : (right : Bool) (x v limit : ℕ) → right ≡ true → x ≡ v → x < limit → Some x ≡ (if right && nat_lt v limit then Some v else None)
below_limit right x v limit e same below = rw (e, ← same) (grind (arith, below))

-- and no other
pub past_limit : (right : Bool) (v limit : ℕ) → limit ≤ v → None ≡ (if right && nat_lt v limit then Some v else None)
past_limit true v limit past = grind (arith, past)
past_limit false v limit past = refl

-- what `parse` reads of digits is their number
pub read_number : (text : List ℕ) (x : ℕ) → is_number text ≡ true →
    (IsNumeral 10 (without_leading_plus text) × (digits_value 10 (without_leading_plus text) < 2 ^ 64)) × (x ≡ digits_value 10 (without_leading_plus text)) →
    x ≡ digits_value 10 text
read_number text x e h = (parse_digits own {E = ℕ} 64 text (Ok x) h (positive text e).1).1

-- and it reads them where the number is a u64
pub refused_number : (text : List ℕ) → is_number text ≡ true →
    ¬ (IsNumeral 10 (without_leading_plus text) × (digits_value 10 (without_leading_plus text) < 2 ^ 64)) → 2 ^ 64 ≤ digits_value 10 text
refused_number text e h =
    let no : ¬ ((0 < length text) × (digits_value 10 text < 2 ^ 64)) = parse_digits own {E = ℕ} 64 text (Err 0) h (positive text e).1 in
    let some : 0 < length text = (positive text e).0 in
    grind (arith, no, some)
