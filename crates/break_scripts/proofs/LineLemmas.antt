-- What holds of the lines of requests.
use Rattle.std.proofs.Common.{◌≡◌, ℕ, ◌+◌, ◌%◌, ◌^◌, ◌<◌, ◌≤◌, ◌==◌, nat_lt, ◌&&◌, Bool, true, false, List, [], ◌∷◌, ◌++◌, length, Some, None, subst, if◌then◌else◌, refl, sym, ap, ◌∙◌, append_assoc, eqb-true, arith, rules}
use Rattle.std.specs.List.{list_all}
use Rattle.std.specs.Char.{is_ascii_digit}
use Rattle.std.specs.Str.Parse.{digits_value}
use Rattle.std.specs.Fmt.{decimal}
use Rattle.std.proofs.lemmas.Str.Parse.{IsDigitsTest, IsNumeralModel, numerals_by_value}
use Rattle.std.proofs.lemmas.Fmt.{digits_decimal, digits_value-decimal, decimal_nonempty}
use Rattle.decimal_numbers.specs.Numbers.{number_below}
use Rattle.hex_digits.proofs.ReadBackLemmas.{spelled-digits_of}
use Rattle.break_scripts.specs.Scripts.{PlannedLine, message, with_bytes, lines_of}
use Rattle.break_scripts.specs.Laws.{AreRising, bytes_before, LinesAreReadBack, LinesRise, MessagesStandBeforeTheirPackets}

-- ---- numbers and digits

tells : IsDigitsTest (λ ds. list_all is_ascii_digit ds ≡ true)
tells = search rules

own : IsNumeralModel (λ ds. list_all is_ascii_digit ds ≡ true) (digits_value 10)
own = numerals_by_value _ tells

below : (some all : Bool) (v packet : ℕ) → some ≡ true → all ≡ true → v ≡ packet → packet < 2 ^ 64
    → (if (some && all) && nat_lt v (2 ^ 64) then Some v else None) ≡ Some packet
below some all v packet a b same small = rw (a, b, same) (grind (arith, small))

number_back : (packet : ℕ) → packet < 2 ^ 64 → number_below (decimal packet) (2 ^ 64) ≡ Some packet
number_back packet small =
    let long : 0 < length (decimal packet) = decimal_nonempty packet small in
    below (nat_lt 0 (length (decimal packet))) (list_all is_ascii_digit (decimal packet)) (digits_value 10 (decimal packet)) packet
    (grind (arith, long)) (digits_decimal own packet small) (digits_value-decimal own packet small) small

pub read_back : LinesAreReadBack
read_back packet bytes small are = (number_back packet small, spelled-digits_of bytes are)

-- ---- the numbers rise

rising_with : (least p : ℕ) (m : List ℕ) (ls : List PlannedLine) → least ≤ p → AreRising p ls → AreRising least (with_bytes p m ls)
rising_with least p m [] low rise = (low, tt)
rising_with least p m (l ∷ ls) low rise = by (l.packet == p) refl
  where
    by : (b : Bool) → (l.packet == p) ≡ b
        → AreRising least (if b then record { packet = p; bytes = m ++ l.bytes } ∷ ls else record { packet = p; bytes = m } ∷ l ∷ ls)
    by true same = (low, subst (λ n. AreRising (n + 1) ls) (eqb-true l.packet p same) rise.1)
    by false other = (low, (grind (arith, rise.0, other), rise.1))

pub rise : LinesRise
rise index number least [] order = tt
rise index number least (r ∷ rs) order =
    rising_with least r.packet (message number index r.request) (lines_of index ((number + 1) % 256) rs) order.0
    (rise index ((number + 1) % 256) r.packet rs order.1)

-- ---- messages stand before their packets

bytes_with : (packet p : ℕ) (m : List ℕ) (ls : List PlannedLine)
    → bytes_before packet (with_bytes p m ls) ≡ (if p == packet then m else []) ++ bytes_before packet ls
bytes_with packet p m [] = refl
bytes_with packet p m (l ∷ ls) = by (l.packet == p) refl
  where
    inside : (b : Bool) (rest : List ℕ) → (if b then m ++ l.bytes else []) ++ rest ≡ (if b then m else []) ++ ((if b then l.bytes else []) ++ rest)
    inside true rest = append_assoc m l.bytes rest
    inside false rest = refl

    by : (b : Bool) → (l.packet == p) ≡ b
        → bytes_before packet (if b then record { packet = p; bytes = m ++ l.bytes } ∷ ls else record { packet = p; bytes = m } ∷ l ∷ ls)
        ≡ (if p == packet then m else []) ++ ((if l.packet == packet then l.bytes else []) ++ bytes_before packet ls)
    by true same = inside (p == packet) (bytes_before packet ls)
        ∙ ap (λ n. (if p == packet then m else []) ++ ((if n == packet then l.bytes else []) ++ bytes_before packet ls)) (sym (eqb-true l.packet p same))
    by false other = refl

pub stand_before : MessagesStandBeforeTheirPackets
stand_before index number packet [] = refl
stand_before index number packet (r ∷ rs) =
    bytes_with packet r.packet (message number index r.request) (lines_of index ((number + 1) % 256) rs)
    ∙ ap (λ x. (if r.packet == packet then message number index r.request else []) ++ x) (stand_before index ((number + 1) % 256) packet rs)
