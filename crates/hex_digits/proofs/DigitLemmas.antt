-- Digits of bytes, byte by byte: as they are written, and as they are read.
use Rattle.std.proofs.Common.{◌≡◌, ◌≢◌, ℕ, ◌+◌, ◌-◌, ◌*◌, ◌/◌, ◌%◌, ◌<◌, ◌≤◌, Bool, true, false, ◌&&◌, List, [], ◌∷◌, ◌++◌, length, get_or, take, drop, Option, Some, None, refl, ap, sym, ◌∙◌, arith, slice_index, slice_set, suc, append_assoc, length-append, drop-cons}
use Rattle.std.specs.Prelude.{IfSome, is_some, option_map}
use Rattle.std.specs.List.{list_all}
use Rattle.std.proofs.lemmas.List.{take_more, length-take-le, set-append_right}
use Rattle.std.proofs.Math.Seq.{set-append_seam}
use Rattle.hex_digits.specs.Digits.{digit_value, digit_of, digits_of, byte_before, spelled}

-- ---- one digit

pub digit_value-digit_of : (v : ℕ) → v < 16 → digit_value (digit_of v) ≡ Some v
digit_value-digit_of v small = grind (arith, small)

-- ---- the digits of bytes

pub length-digits_of : (bs : List ℕ) → length (digits_of bs) ≡ 2 * length bs
length-digits_of [] = refl
length-digits_of (b ∷ bs) = let h : length (digits_of bs) ≡ 2 * length bs = length-digits_of bs in grind (arith, h)

pub digits_of-append : (xs ys : List ℕ) → digits_of (xs ++ ys) ≡ digits_of xs ++ digits_of ys
digits_of-append [] ys = refl
digits_of-append (x ∷ xs) ys = ap (λ r. digit_of (x / 16) ∷ digit_of (x % 16) ∷ r) (digits_of-append xs ys)

-- a byte more
pub digits_step : (bytes : List ℕ) (i : ℕ) → i < length bytes →
    digits_of (take i bytes) ++ (digit_of (get_or bytes i 0 / 16) ∷ digit_of (get_or bytes i 0 % 16) ∷ []) ≡ digits_of (take (i + 1) bytes)
digits_step bytes i inside = sym (ap digits_of (take_more bytes i 0 inside) ∙ digits_of-append (take i bytes) (get_or bytes i 0 ∷ []))

-- ---- spelled into a line

-- two digits behind what is spelled
set_two : (done : List ℕ) (a b : ℕ) (rest : List ℕ) (n x y : ℕ) → length done ≡ n →
    slice_set (slice_set (done ++ a ∷ b ∷ rest) n x) (n + 1) y ≡ (done ++ x ∷ y ∷ []) ++ rest
set_two done a b rest n x y e =
    let first : slice_set (done ++ a ∷ b ∷ rest) n x ≡ done ++ x ∷ b ∷ rest = rw (← e) (set-append_seam done a (b ∷ rest) x) in
    let one : n + 1 - n ≡ 1 = omega arith in
    let second : slice_set (done ++ x ∷ b ∷ rest) (n + 1) y ≡ done ++ x ∷ y ∷ rest =
    set-append_right done (x ∷ b ∷ rest) n (n + 1) y e (omega arith) ∙ ap (λ k. done ++ slice_set (x ∷ b ∷ rest) k y) one in
    ap (λ l. slice_set l (n + 1) y) first ∙ second ∙ sym (append_assoc done (x ∷ y ∷ []) rest)

pub spell_step : (line bytes : List ℕ) (start i : ℕ) → i < length bytes → 2 * (start + length bytes) ≤ length line →
    slice_set (slice_set (take (2 * start) line ++ digits_of (take i bytes) ++ drop (2 * (start + i)) line) (2 * (start + i)) (digit_of (get_or bytes i 0 / 16))) (2 * (start + i) + 1) (digit_of (get_or bytes i 0 % 16))
    ≡ take (2 * start) line ++ digits_of (take (i + 1) bytes) ++ drop (2 * (start + (i + 1))) line
spell_step line bytes start i inside room =
    let n : ℕ = 2 * (start + i) in
    let b : ℕ = get_or bytes i 0 in
    let done : List ℕ = take (2 * start) line ++ digits_of (take i bytes) in
    let size : length done ≡ n = length-append (take (2 * start) line) (digits_of (take i bytes)) ∙
    (rw (length-take-le (2 * start) line (omega arith), length-digits_of (take i bytes), length-take-le i bytes (omega arith)) (omega arith)) in
    let cut : drop n line ≡ get_or line n 0 ∷ get_or line (suc n) 0 ∷ drop (suc (suc n)) line =
    drop-cons line n 0 (omega arith) ∙ ap (λ r. get_or line n 0 ∷ r) (drop-cons line (suc n) 0 (omega arith)) in
    let next : suc (suc n) ≡ 2 * (start + (i + 1)) = omega arith in
    let more : take (2 * start) line ++ digits_of (take (i + 1) bytes) ≡ done ++ digit_of (b / 16) ∷ digit_of (b % 16) ∷ [] =
    ap (λ r. take (2 * start) line ++ r) (sym (digits_step bytes i inside))
    ∙ sym (append_assoc (take (2 * start) line) (digits_of (take i bytes)) (digit_of (b / 16) ∷ digit_of (b % 16) ∷ [])) in
    ap (λ r. slice_set (slice_set (done ++ r) n (digit_of (b / 16))) (n + 1) (digit_of (b % 16))) cut
    ∙ set_two done (get_or line n 0) (get_or line (suc n) 0) (drop (suc (suc n)) line) n (digit_of (b / 16)) (digit_of (b % 16)) size
    ∙ (rw (more, next) refl)

-- ---- read out of a text

-- these, and then those that may be behind them
abbrev pub behind : {X : Type 0} → List X → Option (List X) → Option (List X)
behind done rest = option_map (λ more. done ++ more) rest

pub behind_none : (bytes : Option (List ℕ)) → behind [] bytes ≡ bytes
behind_none None = refl
behind_none (Some more) = refl

one_more : (done : List ℕ) (byte : ℕ) (bytes : Option (List ℕ)) → behind (done ++ byte ∷ []) bytes ≡ behind done (option_map (λ more. byte ∷ more) bytes)
one_more done byte None = refl
one_more done byte (Some more) = ap (λ (l : List ℕ). Some l) (append_assoc done (byte ∷ []) more)

before_some : (high low : ℕ) (bytes : Option (List ℕ)) → byte_before (Some high) (Some low) bytes ≡ option_map (λ more. (16 * high + low) ∷ more) bytes
before_some high low None = refl
before_some high low (Some more) = refl

pub spelled_more : (done rest : List ℕ) (h l : ℕ) → 2 ≤ length rest → Some h ≡ digit_value (slice_index rest 0) → Some l ≡ digit_value (slice_index rest 1) →
    behind (done ++ (16 * h + l) ∷ []) (spelled (drop 2 rest)) ≡ behind done (spelled rest)
spelled_more done [] h l two e d = absurd (omega arith)
spelled_more done (x ∷ []) h l two e d = absurd (omega arith)
spelled_more done (x ∷ y ∷ rest) h l two e d =
    one_more done (16 * h + l) (spelled rest) ∙ ap (behind done) (sym (before_some h l (spelled rest)) ∙ same)
  where
    same : byte_before (Some h) (Some l) (spelled rest) ≡ byte_before (digit_value x) (digit_value y) (spelled rest)
    same = ap (λ o. byte_before o (Some l) (spelled rest)) e ∙ ap (λ o. byte_before (digit_value x) o (spelled rest)) d

none_low : (high : Option ℕ) (bytes : Option (List ℕ)) → byte_before high None bytes ≡ None
none_low None bytes = refl
none_low (Some h) bytes = refl

pub spelled_not_high : (rest : List ℕ) → 2 ≤ length rest → None ≡ digit_value (slice_index rest 0) → spelled rest ≡ None
spelled_not_high [] two e = absurd (omega arith)
spelled_not_high (x ∷ []) two e = absurd (omega arith)
spelled_not_high (x ∷ y ∷ rest) two e = ap (λ o. byte_before o (digit_value y) (spelled rest)) (sym e)

pub spelled_not_low : (rest : List ℕ) → 2 ≤ length rest → None ≡ digit_value (slice_index rest 1) → spelled rest ≡ None
spelled_not_low [] two e = absurd (omega arith)
spelled_not_low (x ∷ []) two e = absurd (omega arith)
spelled_not_low (x ∷ y ∷ rest) two e = ap (λ o. byte_before (digit_value x) o (spelled rest)) (sym e) ∙ none_low (digit_value x) (spelled rest)

-- ---- judged before it is read

-- where none is there
pub none_there : {X : Type 0} (o : Option X) → false ≡ is_some o → None ≡ o
none_there None e = refl
none_there (Some w) e = absurd cc

-- a byte is there where its halves and the bytes behind it are
before_is_some : (high low : Option ℕ) (bytes : Option (List ℕ)) → is_some (byte_before high low bytes) ≡ (is_some high && (is_some low && is_some bytes))
before_is_some None low bytes = refl
before_is_some (Some h) None bytes = refl
before_is_some (Some h) (Some l) None = refl
before_is_some (Some h) (Some l) (Some bytes) = refl

-- half a byte is left
pub spelled_odd : (text : List ℕ) → length text % 2 ≢ 0 → is_some (spelled text) ≡ false
spelled_odd [] odd = absurd (odd refl)
spelled_odd (x ∷ []) odd = refl
spelled_odd (x ∷ y ∷ rest) odd =
    let behind = spelled_odd rest (λ e. odd (omega arith)) in
    let both = before_is_some (digit_value x) (digit_value y) (spelled rest) in
    grind (arith, behind, both)

-- no half is left: all of it has to be digits
pub spelled_even : (text : List ℕ) → length text % 2 ≡ 0 → list_all (λ byte. is_some (digit_value byte)) text ≡ is_some (spelled text)
spelled_even [] even = refl
spelled_even (x ∷ []) even = absurd (omega arith)
spelled_even (x ∷ y ∷ rest) even =
    ap (λ more. is_some (digit_value x) && (is_some (digit_value y) && more)) (spelled_even rest (omega arith))
    ∙ sym (before_is_some (digit_value x) (digit_value y) (spelled rest))

-- the bytes take half as many places as their digits
pub spelled_size : (text : List ℕ) → true ≡ is_some (spelled text) → length text ≡ 2 * (length text / 2)
spelled_size text e = let odd = spelled_odd text in grind (arith, odd, e)

-- ---- read to the end, whatever the digits are

digit_is : (o : Option ℕ) (v : ℕ) → true ≡ is_some o → IfSome o (λ w. w ≡ v) → Some v ≡ o
digit_is None v e h = absurd cc
digit_is (Some w) v e h = ap Some (sym h)

-- two digits more
pub spelled_on : (done rest : List ℕ) (text : Option (List ℕ)) (sofar first second : Bool) (h l : ℕ) → 2 ≤ length rest
    → first ≡ is_some (digit_value (slice_index rest 0)) → second ≡ is_some (digit_value (slice_index rest 1))
    → IfSome (digit_value (slice_index rest 0)) (λ v. v ≡ h) → IfSome (digit_value (slice_index rest 1)) (λ v. v ≡ l)
    → (sofar ≡ true → behind done (spelled rest) ≡ text) → ((sofar && first) && second) ≡ true
    → behind (done ++ (16 * h + l) ∷ []) (spelled (drop 2 rest)) ≡ text
spelled_on done rest text true true true h l two f s high low so e =
    spelled_more done rest h l two (digit_is (digit_value (slice_index rest 0)) h f high) (digit_is (digit_value (slice_index rest 1)) l s low) ∙ so refl
spelled_on done rest text true true false h l two f s high low so e = absurd cc
spelled_on done rest text true false second h l two f s high low so e = absurd cc
spelled_on done rest text false first second h l two f s high low so e = absurd cc

-- one of them is none
pub spelled_off : (done rest : List ℕ) (text : Option (List ℕ)) (sofar first second : Bool) → 2 ≤ length rest
    → first ≡ is_some (digit_value (slice_index rest 0)) → second ≡ is_some (digit_value (slice_index rest 1))
    → (sofar ≡ true → behind done (spelled rest) ≡ text) → (sofar ≡ false → text ≡ None) → ((sofar && first) && second) ≡ false
    → text ≡ None
spelled_off done rest text false first second two f s so none e = none refl
spelled_off done rest text true false second two f s so none e = sym (so refl) ∙ ap (behind done) (spelled_not_high rest two (none_there (digit_value (slice_index rest 0)) f))
spelled_off done rest text true true false two f s so none e = sym (so refl) ∙ ap (behind done) (spelled_not_low rest two (none_there (digit_value (slice_index rest 1)) s))
spelled_off done rest text true true true two f s so none e = absurd cc
