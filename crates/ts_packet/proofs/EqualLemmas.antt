-- What is compared with itself is equal.
use Rattle.std.proofs.Common.{◌≡◌, ℕ, List, [], ◌∷◌, Bool, true, false, refl, Option, None, Some, arith}
use Rattle.std.specs.Prelude.{nat_eq}
use Rattle.std.specs.Bool.{beq}
use Rattle.std.specs.Option.{option_eq}
use Rattle.std.proofs.lemmas.Grind.{common_steps}
use lib.Pointwise.{pointwise}

pub same-byte : (n : ℕ) → nat_eq n n ≡ true
same-byte n = grind (arith, common_steps)

pub same-bytes : (bs : List ℕ) → pointwise nat_eq bs bs ≡ true
same-bytes [] = refl
same-bytes (b ∷ bs) = rw (same-byte b, same-bytes bs) refl

pub same-payload : (o : Option (List ℕ)) → option_eq (pointwise nat_eq) o o ≡ true
same-payload None = refl
same-payload (Some bs) = same-bytes bs

pub same-flag : (b : Bool) → beq b b ≡ true
same-flag true = refl
same-flag false = refl
