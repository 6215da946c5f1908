-- Tests of integers.
use Rattle.std.proofs.Common.{◌≡◌, true, false, arith}
use Rattle.std.specs.Prelude.{ℤ, ◌≤ℤ◌, ◌<ℤ◌, int_lt}
use Rattle.std.specs.Ordering.{int_eq}
use Rattle.std.proofs.lemmas.Int.{ints}

pub int-same : (a : ℤ) → int_eq a a ≡ true
int-same a = grind (arith, ints)

pub int-is : (a b : ℤ) → int_eq a b ≡ true → a ≡ b
int-is a b is = grind (arith, ints)

pub lt-test : (a b : ℤ) → int_lt a b ≡ true → a <ℤ b
lt-test a b is = grind (arith, ints)

pub ge-test : (a b : ℤ) → int_lt a b ≡ false → b ≤ℤ a
ge-test a b is = grind (arith, ints)

pub lt-is : (a b : ℤ) → a <ℤ b → int_lt a b ≡ true
lt-is a b is = grind (arith, ints)
