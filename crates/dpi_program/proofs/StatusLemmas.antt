-- What status 0 says of the run that it tells of.
use Rattle.std.specs.Prelude.{Result, Ok, Err, IfOk, IfErr}
use Rattle.std.proofs.Common.{◌≡◌, ℕ, arith}

-- what is said of an answer twice
pub both : {T E : Type 0} (r : Result T E) (one two : T → Type 0) → IfOk r one → IfOk r two → IfOk r (λ x. one x × two x)
both (Ok x) one two h k = (h, k)
both (Err e) one two h k = tt

-- status 0 is of a run that went through
pub went_through : {T E : Type 0} (r : Result T E) (status : ℕ) (said : T → Type 0) → IfErr r (λ _. status ≡ 1) → status ≡ 0 → IfOk r said
    → (x : T) × said x
went_through (Ok x) status said e zero h = (x, h)
went_through (Err f) status said e zero h = absurd (grind arith)
