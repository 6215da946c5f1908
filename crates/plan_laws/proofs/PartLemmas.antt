-- The parts of a plan, one for each stream, changed at one of them.
use Rattle.std.proofs.Common.{◌≡◌, ℕ, zero, suc, ◌-◌, ◌%◌, ◌<◌, List, [], ◌∷◌, ◌++◌, Bool, true, false, ◌||◌, refl, sym, ap, ◌∙◌, Some, arith, length, map}
use Rattle.std.specs.Prelude.{slice_get, slice_index_or, slice_set, replicate}
use Rattle.std.specs.List.{list_any}
use Rattle.splice_plans.specs.declared.plan.Part.{Part}
use Rattle.splice_plans.specs.Turning.{waiting}
use Rattle.splice_plans.specs.Known.{padded}

pub get-map : {A B : Type 0} (f : A → B) (xs : List A) (n : ℕ) (x : A) (d : B) → slice_get xs n ≡ Some x → slice_index_or (map f xs) n d ≡ f x
get-map f [] n x d h = absurd (cc)
get-map f (y ∷ xs) zero x d h = let is : y ≡ x = cc in ap f is
get-map f (y ∷ xs) (suc n) x d h = get-map f xs n x d h

pub get-front : (xs ys : List Part) (n : ℕ) (d : Part) → n < length xs → slice_index_or (xs ++ ys) n d ≡ slice_index_or xs n d
get-front [] ys n d l = absurd (omega (arith, l))
get-front (x ∷ xs) ys zero d l = refl
get-front (x ∷ xs) ys (suc n) d l = get-front xs ys n d (omega (arith, l))

pub set-front : (xs ys : List Part) (n : ℕ) (x : Part) → n < length xs → slice_set (xs ++ ys) n x ≡ slice_set xs n x ++ ys
set-front [] ys n x l = absurd (omega (arith, l))
set-front (y ∷ xs) ys zero x l = refl
set-front (y ∷ xs) ys (suc n) x l = ap (λ l. y ∷ l) (set-front xs ys n x (omega (arith, l)))

pub length-set : (xs : List Part) (n : ℕ) (x : Part) → length (slice_set xs n x) ≡ length xs
length-set [] n x = refl
length-set (y ∷ xs) zero x = refl
length-set (y ∷ xs) (suc n) x = ap suc (length-set xs n x)

pub set-twice : (xs : List Part) (n : ℕ) (x y : Part) → slice_set (slice_set xs n x) n y ≡ slice_set xs n y
set-twice [] n x y = refl
set-twice (z ∷ xs) zero x y = refl
set-twice (z ∷ xs) (suc n) x y = ap (λ l. z ∷ l) (set-twice xs n x y)

pub get-set : (xs : List Part) (n : ℕ) (x d : Part) → n < length xs → slice_index_or (slice_set xs n x) n d ≡ x
get-set [] n x d l = absurd (omega (arith, l))
get-set (y ∷ xs) zero x d l = refl
get-set (y ∷ xs) (suc n) x d l = get-set xs n x d (omega (arith, l))

pub padded-set : (xs : List Part) (n : ℕ) (x : Part) → n < length xs → slice_set (padded xs) n x ≡ padded (slice_set xs n x)
padded-set xs n x l = set-front xs (replicate (8 - length xs) waiting) n x l ∙ ap (λ m. slice_set xs n x ++ replicate (8 - m) waiting) (sym (length-set xs n x))

pub padded-get : (xs : List Part) (n : ℕ) (d : Part) → n < length xs → slice_index_or (padded xs) n d ≡ slice_index_or xs n d
padded-get xs n d l = get-front xs (replicate (8 - length xs) waiting) n d l

pub small-number : (n : ℕ) → n < 8 → n % 8 ≡ n
small-number n l = grind (arith, l)

else-tail : {A : Type 0} (y : ℕ) (xs : List ℕ) (n : ℕ) (f g : ℕ → A) → ((j q : ℕ) → slice_get (y ∷ xs) j ≡ Some q → (j ≡ suc n → ⊥) → f q ≡ g q) → (j q : ℕ) → slice_get xs j ≡ Some q → (j ≡ n → ⊥) → f q ≡ g q
else-tail y xs n f g h j q is differ = h (suc j) q is (λ e. differ (omega (arith, e)))

pub map-same : {A : Type 0} (xs : List ℕ) (f g : ℕ → A) → ((j q : ℕ) → slice_get xs j ≡ Some q → f q ≡ g q) → map f xs ≡ map g xs
map-same [] f g h = refl
map-same (y ∷ xs) f g h = ap (λ v. v ∷ map f xs) (h 0 y refl) ∙ ap (λ l. g y ∷ l) (map-same xs f g (λ j q is. h (suc j) q is))

pub map-set : (xs : List ℕ) (n pid : ℕ) (f g : ℕ → Part) (v : Part) → slice_get xs n ≡ Some pid → v ≡ g pid
    → ((j q : ℕ) → slice_get xs j ≡ Some q → (j ≡ n → ⊥) → f q ≡ g q) → slice_set (map f xs) n v ≡ map g xs
map-set [] n pid f g v is e h = absurd (cc)
map-set (y ∷ xs) zero pid f g v is e h =
    let same : y ≡ pid = cc in
    ap (λ u. u ∷ map f xs) (e ∙ ap g (sym same)) ∙ ap (λ l. g y ∷ l) (map-same xs f g (λ j q k. h (suc j) q k (λ z. absurd (omega (arith, z)))))
map-set (y ∷ xs) (suc n) pid f g v is e h =
    ap (λ u. u ∷ slice_set (map f xs) n v) (h 0 y refl (λ z. absurd (omega (arith, z)))) ∙ ap (λ l. g y ∷ l) (map-set xs n pid f g v is e (else-tail y xs n f g h))

pub any-same : (xs : List ℕ) (f g : ℕ → Bool) → ((j q : ℕ) → slice_get xs j ≡ Some q → f q ≡ g q) → list_any f xs ≡ list_any g xs
any-same [] f g h = refl
any-same (y ∷ xs) f g h = ap (λ b. b || list_any f xs) (h 0 y refl) ∙ ap (λ b. g y || b) (any-same xs f g (λ j q is. h (suc j) q is))

swap : (a b d : Bool) → ((a || b) || d) ≡ ((a || d) || b)
swap true b d = refl
swap false true true = refl
swap false true false = refl
swap false false true = refl
swap false false false = refl

join : (a b d : Bool) → ((a || b) || d) ≡ (a || (b || d))
join true b d = refl
join false b d = refl

pub any-set : (xs : List ℕ) (n pid : ℕ) (f g : ℕ → Bool) (d : Bool) → slice_get xs n ≡ Some pid → g pid ≡ (f pid || d)
    → ((j q : ℕ) → slice_get xs j ≡ Some q → (j ≡ n → ⊥) → f q ≡ g q) → (list_any f xs || d) ≡ list_any g xs
any-set [] n pid f g d is e h = absurd (cc)
any-set (y ∷ xs) zero pid f g d is e h =
    let same : y ≡ pid = cc in
    swap (f y) (list_any f xs) d ∙ ap (λ b. b || list_any f xs) (ap (λ z. f z || d) same ∙ sym e ∙ ap g (sym same))
    ∙ ap (λ b. g y || b) (any-same xs f g (λ j q k. h (suc j) q k (λ z. absurd (omega (arith, z)))))
any-set (y ∷ xs) (suc n) pid f g d is e h =
    join (f y) (list_any f xs) d ∙ ap (λ b. b || (list_any f xs || d)) (h 0 y refl (λ z. absurd (omega (arith, z)))) ∙ ap (λ b. g y || b) (any-set xs n pid f g d is e (else-tail y xs n f g h))
