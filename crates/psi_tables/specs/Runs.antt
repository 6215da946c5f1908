-- One thing after another, up to the end of the bytes.
use Rattle.std.specs.Prelude.{ℕ, zero, suc, List, [], ◌∷◌, length, Option, Some, None, option_map}
use Rattle.std.specs.Option.{option_and_then, option_map_or}

-- at most so many things, each taken from the front by `at`, where they fill the bytes exactly
unfoldable pub run_within : {A : Type 0} → (List ℕ → Option (A × List ℕ)) → ℕ → List ℕ → Option (List A)
run_within at zero [] = Some []
run_within at zero (b ∷ bytes) = None
run_within at (suc n) [] = Some []
run_within at (suc n) (b ∷ bytes) = option_and_then (λ x. option_map (λ xs. x.0 ∷ xs) (run_within at n x.1)) (at (b ∷ bytes))

-- the things that fill the bytes exactly: each has a byte at least, so there are no more than bytes
unfoldable pub run_of : {A : Type 0} → (List ℕ → Option (A × List ℕ)) → List ℕ → Option (List A)
run_of at bytes = run_within at (length bytes) bytes

-- the things at the front, as far as the bytes have them
unfoldable pub things_within : {A : Type 0} → (List ℕ → Option (A × List ℕ)) → ℕ → List ℕ → List A
things_within at zero bytes = []
things_within at (suc n) bytes = option_map_or (λ x. x.0 ∷ things_within at n x.1) (at bytes) []

unfoldable pub things_of : {A : Type 0} → (List ℕ → Option (A × List ℕ)) → List ℕ → List A
things_of at bytes = things_within at (length bytes) bytes
