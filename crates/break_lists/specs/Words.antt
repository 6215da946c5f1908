-- The words of a line, and the numbers and times that they write.
use Rattle.std.specs.Prelude.{◌≡◌, ◌<◌, ℕ, ◌+◌, ◌-◌, ◌*◌, ◌^◌, ◌==◌, nat_le, List, [], ◌∷◌, length, drop, Bool, true, false, ◌&&◌, if◌then◌else◌, Option, None, Some, option_map, option_and_then}
use Rattle.std.specs.List.{list_any, slice_split, before_first, after_first, position_or_len}
use Rattle.std.specs.Borrow.{Bor}
use Rattle.std.specs.Char.{is_ascii_whitespace, eq_ignore_ascii_case}
use Rattle.std.specs.Str.{is_utf8}
use Rattle.decimal_numbers.specs.Numbers.{number_below}

-- what is left behind the white space at the front
unfoldable pub behind_blanks : List ℕ → List ℕ
behind_blanks [] = []
behind_blanks (b ∷ bs) = if is_ascii_whitespace b then behind_blanks bs else b ∷ bs

-- what is cut behind the first byte that passes the test, where there is one: with what stands before it, it is all of the text, and their
-- parts are those of the text
abbrev pub IsCutBehind : (ℕ → Bool) → List ℕ → Option (Bor (List ℕ)) → Type 0
IsCutBehind p text None = (list_any p text ≡ false) × (after_first p text ≡ []) × (slice_split p text ≡ before_first p text ∷ [])
IsCutBehind p text (Some rest) =
    (list_any p text ≡ true) × (after_first p text ≡ rest.now) × (slice_split p text ≡ before_first p text ∷ slice_split p rest.now)
    × (length rest.now < length text)

-- THE FIRST WORD: what stands behind that up to the next white space, or nothing where no word is left
abbrev pub first_word : List ℕ → List ℕ
first_word text = before_first is_ascii_whitespace (behind_blanks text)

-- and what stands behind it
abbrev pub after_word : List ℕ → List ℕ
after_word text = drop (position_or_len is_ascii_whitespace (behind_blanks text)) (behind_blanks text)

-- the words differ in the case of letters at most
unfoldable pub same_word : List ℕ → List ℕ → Bool
same_word [] [] = true
same_word [] (b ∷ bs) = false
same_word (a ∷ more) [] = false
same_word (a ∷ more) (b ∷ bs) = eq_ignore_ascii_case a b && same_word more bs

-- a number in decimal digits alone, below a limit
abbrev pub whole_number : List ℕ → ℕ → Option ℕ
whole_number word limit = if is_utf8 word then number_below word limit else None

abbrev pub is_point : ℕ → Bool
is_point b = b == 46

abbrev pub is_colon : ℕ → Bool
is_colon b = b == 58

-- the thousandths that one to three digits behind a point write
abbrev pub thousandths : List ℕ → Option ℕ
thousandths digits = if nat_le (length digits) 3 then option_map (λ n. n * 10 ^ (3 - length digits)) (whole_number digits 1000) else None

-- the digits behind the point, where there is one
abbrev pub fraction_of : List ℕ → Option ℕ
fraction_of word = if list_any is_point word then thousandths (after_first is_point word) else Some 0

-- SECONDS: digits, and a point and up to three digits more or none, in milliseconds; whole seconds are below the limit
abbrev pub seconds_of : ℕ → List ℕ → Option ℕ
seconds_of limit word = option_and_then (λ whole. option_map (λ f. 1000 * whole + f) (fraction_of word)) (whole_number (before_first is_point word) limit)

-- minutes below 60, a colon, and seconds below 60
abbrev pub minutes_of : List ℕ → Option ℕ
minutes_of word = option_and_then (λ minutes. option_map (λ s. 60000 * minutes + s) (seconds_of 60 (after_first is_colon word))) (whole_number (before_first is_colon word) 60)

-- A TIME OF THE CLOCK: hours below 1,000, a colon, and minutes and seconds, in milliseconds
abbrev pub clock_of : List ℕ → Option ℕ
clock_of word = option_and_then (λ hours. option_map (λ m. 3600000 * hours + m) (minutes_of (after_first is_colon word))) (whole_number (before_first is_colon word) 1000)

-- A SPAN OF TIME in milliseconds: a time of the clock where it has a colon, and else seconds below 3,600,000
abbrev pub span_of : List ℕ → Option ℕ
span_of word = if list_any is_colon word then clock_of word else seconds_of 3600000 word
