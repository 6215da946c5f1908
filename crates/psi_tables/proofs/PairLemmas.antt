-- Pairs, one after another.
use Rattle.std.proofs.Common.{◌≡◌, ℕ, zero, suc, ◌%◌, ◌<◌, ◌≤◌, List, [], ◌∷◌, ◌++◌, length, drop, Bool, true, false, Option, Some, None, refl, sym, ap, subst, ◌∙◌, arith}
use Rattle.std.specs.Prelude.{nat_lt, ◌==◌, not, if◌then◌else◌, is_some, option_map, find}
use Rattle.std.proofs.lemmas.Bool.{ltb-false, le-ltb, lt-ltb}
use Rattle.std.proofs.lemmas.List.{length-drop}
use Rattle.std.proofs.lemmas.Option.{some_pair_parts}
use Rattle.byteorder.specs.Endian.{big_bytes}
use Rattle.wire_fields.specs.Numbers.{AreBytes}
use Rattle.wire_fields.specs.Numbers.{number16_at}
use Rattle.wire_fields.proofs.Cells.{field16, two_at, number16_fits}
use Rattle.psi_tables.specs.Runs.{run_of, things_of}
use Rattle.psi_tables.specs.Association.{Pair, IsPair, pair_bytes, pair_at, shown_pair, pid_of_program, first_program_of}
use Rattle.psi_tables.proofs.RunLemmas.{Shortens, SpelledFirst, things_more, things_ended, fills_more, fills_ends, fills_done}

abbrev pub split_pair : List ℕ → Pair × List ℕ
split_pair bytes = (record { number = number16_at bytes 0; pid_field = number16_at bytes 2 }, drop 4 bytes)

pub record SplitPair (bytes : List ℕ) (p : Pair) (rest : List ℕ) : Type 0 where
  pub long : 4 ≤ length bytes
  pub pair-is : (split_pair bytes).0 ≡ p
  pub rest-is : drop 4 bytes ≡ rest

split_by : (b : Bool) (bytes : List ℕ) (p : Pair) (rest : List ℕ) → nat_lt (length bytes) 4 ≡ b → (if b then None else Some (split_pair bytes)) ≡ Some (p, rest) → SplitPair bytes p rest
split_by true bytes p rest t h = absurd cc
split_by false bytes p rest t h =
    let parts = some_pair_parts (split_pair bytes).0 p (split_pair bytes).1 rest h in
    record { long = ltb-false (length bytes) 4 t; pair-is = parts.0; rest-is = parts.1 }

pub pair_split : (bytes : List ℕ) (p : Pair) (rest : List ℕ) → pair_at bytes ≡ Some (p, rest) → SplitPair bytes p rest
unfolding pair_at
pair_split bytes p rest h = split_by _ bytes p rest refl h

pub pair_there : (bytes : List ℕ) → 4 ≤ length bytes → pair_at bytes ≡ Some (split_pair bytes)
unfolding pair_at
pair_there bytes le = rw (le-ltb (length bytes) 4 le) refl

pub pair_missing : (bytes : List ℕ) → length bytes < 4 → pair_at bytes ≡ None
unfolding pair_at
pair_missing bytes lt = rw (lt-ltb (length bytes) 4 lt) refl

pub pair_shortens : Shortens pair_at
pair_shortens bytes p rest h =
    let s = pair_split bytes p rest h in
    let size = ap (λ (xs : List ℕ). length xs) s.rest-is in
    let long = s.long in
    omega (arith, length-drop 4 bytes)

-- ---- pairs fill the bytes where their number is a multiple of four

pairs_fill_within : (n : ℕ) (bytes : List ℕ) → length bytes ≤ n → is_some (run_of pair_at bytes) ≡ (length bytes % 4 == 0)
pairs_fill_within n [] le = fills_done pair_at pair_shortens [] refl
pairs_fill_within n (a ∷ []) le = fills_ends pair_at pair_shortens (a ∷ []) (pair_missing (a ∷ []) (omega arith)) (omega arith)
pairs_fill_within n (a ∷ b ∷ []) le = fills_ends pair_at pair_shortens (a ∷ b ∷ []) (pair_missing (a ∷ b ∷ []) (omega arith)) (omega arith)
pairs_fill_within n (a ∷ b ∷ c ∷ []) le = fills_ends pair_at pair_shortens (a ∷ b ∷ c ∷ []) (pair_missing (a ∷ b ∷ c ∷ []) (omega arith)) (omega arith)
pairs_fill_within zero (a ∷ b ∷ c ∷ d ∷ rest) le = absurd (omega arith)
pairs_fill_within (suc n) (a ∷ b ∷ c ∷ d ∷ rest) le =
    let bytes = a ∷ b ∷ c ∷ d ∷ rest in
    let more = fills_more pair_at pair_shortens bytes (split_pair bytes).0 rest (pair_there bytes (omega arith)) in
    let fewer = pairs_fill_within n rest (omega arith) in
    let same : length rest % 4 ≡ length bytes % 4 = omega arith in
    more ∙ fewer ∙ ap (λ (k : ℕ). k == 0) same

pub pairs_fill : (bytes : List ℕ) → is_some (run_of pair_at bytes) ≡ (length bytes % 4 == 0)
pairs_fill bytes = pairs_fill_within (length bytes) bytes (omega arith)

pub pair_fits : (bytes : List ℕ) (p : Pair) (rest : List ℕ) → AreBytes bytes → pair_at bytes ≡ Some (p, rest) → SpelledFirst pair_bytes IsPair bytes p rest
pair_fits bytes p rest are h =
    let s = pair_split bytes p rest h in
    let long = s.long in
    let a = two_at bytes 0 (omega arith) are in
    let b = two_at bytes 2 (omega arith) are in
    let whole : bytes ≡ pair_bytes (split_pair bytes).0 ++ drop 4 bytes = a ∙ ap (λ (xs : List ℕ). big_bytes 2 (number16_at bytes 0) ++ xs) b in
    let made : SpelledFirst pair_bytes IsPair bytes (split_pair bytes).0 (drop 4 bytes) = record { parts = whole; fits = record { number = number16_fits bytes 0 are; pid_field = number16_fits bytes 2 are } } in
    subst (λ (x : Pair). SpelledFirst pair_bytes IsPair bytes x rest) s.pair-is (subst (λ (r : List ℕ). SpelledFirst pair_bytes IsPair bytes (split_pair bytes).0 r) s.rest-is made)

abbrev found_pair : ℕ → ℕ → List ℕ → Option (Pair × List ℕ)
found_pair number pid_field rest = Some (record { number = number; pid_field = pid_field }, rest)

pub pair_back : (p : Pair) (rest : List ℕ) → IsPair p → pair_at (pair_bytes p ++ rest) ≡ Some (p, rest)
pair_back p rest is =
    let bytes = pair_bytes p ++ rest in
    let number = field16 bytes 0 p.number (drop 2 bytes) refl is.number in
    let pid = field16 bytes 2 p.pid_field (drop 4 bytes) refl is.pid_field in
    pair_there bytes (omega arith) ∙ ap (λ (n : ℕ). found_pair n (number16_at bytes 2) rest) number ∙ ap (λ (n : ℕ). found_pair p.number n rest) pid

-- ---- the first pair of a kind

some_same : (a b : ℕ × ℕ × List ℕ) → ◌≡◌ {A = Option (ℕ × ℕ × List ℕ)} (Some a) (Some b) → a ≡ b
some_same a b h = cc

-- what is shown of the pair at the front
pub record FrontPair (bytes : List ℕ) (number pid : ℕ) (rest : List ℕ) : Type 0 where
  pub pair : Pair
  pub taken : pair_at bytes ≡ Some (pair, rest)
  pub number-is : pair.number ≡ number
  pub pid-is : pair.pid_field % 8192 ≡ pid

shown_by : (bytes : List ℕ) (r : Option (Pair × List ℕ)) (number pid : ℕ) (rest : List ℕ) → pair_at bytes ≡ r → Some (number, pid, rest) ≡ option_map shown_pair r → FrontPair bytes number pid rest
shown_by bytes None number pid rest e h = absurd cc
shown_by bytes (Some x) number pid rest e h =
    let same = some_same (number, pid, rest) (shown_pair x) h in
    let same-rest : x.1 ≡ rest = sym (ap (λ (t : ℕ × ℕ × List ℕ). t.2) same) in
    record {
      pair = x.0;
      taken = e ∙ ap (λ (r : List ℕ). Some (x.0, r)) same-rest;
      number-is = sym (ap (λ (t : ℕ × ℕ × List ℕ). t.0) same);
      pid-is = sym (ap (λ (t : ℕ × ℕ × List ℕ). t.1) same);
    }

pub shown : (bytes : List ℕ) (number pid : ℕ) (rest : List ℕ) → Some (number, pid, rest) ≡ option_map shown_pair (pair_at bytes) → FrontPair bytes number pid rest
shown bytes number pid rest h = shown_by bytes (pair_at bytes) number pid rest refl h

none_by : (r : Option (Pair × List ℕ)) → None ≡ option_map shown_pair r → r ≡ None
none_by None h = refl
none_by (Some x) h = absurd cc

pub pair_shorter : (bytes : List ℕ) (number pid : ℕ) (rest : List ℕ) → Some (number, pid, rest) ≡ option_map shown_pair (pair_at bytes) → length rest < length bytes
pair_shorter bytes number pid rest h =
    let f = shown bytes number pid rest h in
    pair_shortens bytes f.pair rest f.taken

-- where the front passes the test or not
found_here : (test : Pair → Bool) (bytes rest : List ℕ) (p : Pair) → pair_at bytes ≡ Some (p, rest) → test p ≡ true → find test (things_of pair_at bytes) ≡ Some p
found_here test bytes rest p e t = rw (things_more pair_at pair_shortens bytes p rest e, t) refl

found_later : (test : Pair → Bool) (bytes rest : List ℕ) (p : Pair) → pair_at bytes ≡ Some (p, rest) → test p ≡ false → find test (things_of pair_at bytes) ≡ find test (things_of pair_at rest)
found_later test bytes rest p e t = rw (things_more pair_at pair_shortens bytes p rest e, t) refl

found_never : (test : Pair → Bool) (bytes : List ℕ) → None ≡ option_map shown_pair (pair_at bytes) → find test (things_of pair_at bytes) ≡ None
found_never test bytes h = rw (things_ended pair_at pair_shortens bytes (none_by (pair_at bytes) h)) refl

module _ (wanted : ℕ) where
  pub program_here : (bytes : List ℕ) (number pid : ℕ) (rest : List ℕ) → Some (number, pid, rest) ≡ option_map shown_pair (pair_at bytes) → (number == wanted) ≡ true
      → pid_of_program wanted (things_of pair_at bytes) ≡ Some pid
  program_here bytes number pid rest h t =
      let f = shown bytes number pid rest h in
      let test : (f.pair.number == wanted) ≡ true = rw f.number-is t in
      rw (found_here (λ p. p.number == wanted) bytes rest f.pair f.taken test, f.pid-is) refl

  pub program_later : (bytes : List ℕ) (number pid : ℕ) (rest : List ℕ) → Some (number, pid, rest) ≡ option_map shown_pair (pair_at bytes) → (number == wanted) ≡ false
      → pid_of_program wanted (things_of pair_at bytes) ≡ pid_of_program wanted (things_of pair_at rest)
  program_later bytes number pid rest h t =
      let f = shown bytes number pid rest h in
      let test : (f.pair.number == wanted) ≡ false = rw f.number-is t in
      rw (found_later (λ p. p.number == wanted) bytes rest f.pair f.taken test) refl

  pub program_never : (bytes : List ℕ) → None ≡ option_map shown_pair (pair_at bytes) → pid_of_program wanted (things_of pair_at bytes) ≡ None
  program_never bytes h = rw (found_never (λ p. p.number == wanted) bytes h) refl

pub first_here : (bytes : List ℕ) (number pid : ℕ) (rest : List ℕ) → Some (number, pid, rest) ≡ option_map shown_pair (pair_at bytes) → (number == 0) ≡ false
    → first_program_of (things_of pair_at bytes) ≡ Some (number, pid)
first_here bytes number pid rest h t =
    let f = shown bytes number pid rest h in
    let test : not (f.pair.number == 0) ≡ true = rw (f.number-is, t) refl in
    rw (found_here (λ p. not (p.number == 0)) bytes rest f.pair f.taken test, f.pid-is, f.number-is) refl

pub first_later : (bytes : List ℕ) (number pid : ℕ) (rest : List ℕ) → Some (number, pid, rest) ≡ option_map shown_pair (pair_at bytes) → (number == 0) ≡ true
    → first_program_of (things_of pair_at bytes) ≡ first_program_of (things_of pair_at rest)
first_later bytes number pid rest h t =
    let f = shown bytes number pid rest h in
    let test : not (f.pair.number == 0) ≡ false = rw (f.number-is, t) refl in
    rw (found_later (λ p. not (p.number == 0)) bytes rest f.pair f.taken test) refl

pub first_never : (bytes : List ℕ) → None ≡ option_map shown_pair (pair_at bytes) → first_program_of (things_of pair_at bytes) ≡ None
first_never bytes h = rw (found_never (λ p. not (p.number == 0)) bytes h) refl
