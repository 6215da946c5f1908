-- Fields: what is read was spelled, and what is spelled is read.
use Rattle.std.proofs.Common.{◌≡◌, ℕ, ◌%◌, ◌^◌, ◌≤◌, Bool, true, false, List, [], ◌∷◌, ◌++◌, length, take, drop, slice_index, Option, Some, None, refl, sym, ap, ◌∙◌, arith}
use Rattle.std.specs.Prelude.{nat_lt, if◌then◌else◌}
use Rattle.std.proofs.lemmas.Bool.{ltb-false, le-ltb}
use Rattle.std.proofs.lemmas.List.{length-append, length-take, drop_at, take-append-drop, get_or_append_left}
use Rattle.std.proofs.lemmas.Option.{some_pair_parts}
use Rattle.byteorder.specs.Numbers.{big_from-append}
use Rattle.wire_fields.specs.Numbers.{number_of}
use Rattle.scte35_codec.specs.Bits.{bit_of}
use Rattle.scte35_codec.specs.Fields.{◌>>=◌, byte_at, number_at, ticks_at}
use Rattle.scte35_codec.specs.Grammar.{IsNumber, IsTicks}

-- the value of a step that did not fail
pub bind_some : {A B : Type 0} (r : Option A) (f : A → Option B) (y : B) → (r >>= f) ≡ Some y → (x : A) × (r ≡ Some x) × (f x ≡ Some y)
bind_some (Some x) f y e = (x, refl, e)
bind_some None f y e = absurd cc

-- what was taken from the front of some bytes
pub record HasFront (Is : List ℕ → Type 0) (bytes rest : List ℕ) : Type 0 where
  pub text : List ℕ
  pub whole : bytes ≡ text ++ rest
  pub is : Is text

-- ---- numbers

pub number_of-append : (n : ℕ) (xs ys : List ℕ) → n ≤ length xs → number_of n (xs ++ ys) ≡ number_of n xs
unfolding number_of
number_of-append n xs ys le = big_from-append n xs ys le

pub number_of-take : (n : ℕ) (bytes : List ℕ) → n ≤ length bytes → number_of n (take n bytes) ≡ number_of n bytes
number_of-take n bytes le =
    let long : n ≤ length (take n bytes) = omega (arith, length-take n bytes) in
    sym (number_of-append n (take n bytes) (drop n bytes) long) ∙ ap (number_of n) (take-append-drop n bytes)

abbrev numbered : ℕ → List ℕ → ℕ × List ℕ
numbered n bytes = (number_of n bytes, drop n bytes)

number_sound_by : (b : Bool) (n v : ℕ) (bytes rest : List ℕ) → nat_lt (length bytes) n ≡ b → (if b then None else Some (numbered n bytes)) ≡ Some (v, rest) → HasFront (IsNumber n v) bytes rest
number_sound_by true n v bytes rest t h = absurd cc
number_sound_by false n v bytes rest t h =
    let parts = some_pair_parts (numbered n bytes).0 v (numbered n bytes).1 rest h in
    let long : n ≤ length bytes = ltb-false (length bytes) n t in
    let size : length (take n bytes) ≡ n = omega (arith, length-take n bytes) in
    record {
      text = take n bytes;
      whole = sym (take-append-drop n bytes) ∙ ap (λ (xs : List ℕ). take n bytes ++ xs) parts.1;
      is = record { size = size; worth = number_of-take n bytes long ∙ parts.0 };
    }

pub number_sound : (n v : ℕ) (bytes rest : List ℕ) → number_at n bytes ≡ Some (v, rest) → HasFront (IsNumber n v) bytes rest
unfolding number_at
number_sound n v bytes rest h = number_sound_by (nat_lt (length bytes) n) n v bytes rest refl h

pub number_back : (n v : ℕ) (text rest : List ℕ) → IsNumber n v text → number_at n (text ++ rest) ≡ Some (v, rest)
unfolding number_at
number_back n v text rest is =
    let long : nat_lt (length (text ++ rest)) n ≡ false = le-ltb (length (text ++ rest)) n (omega (arith, length-append text rest, is.size)) in
    let worth : number_of n (text ++ rest) ≡ v = number_of-append n text rest (omega (arith, is.size)) ∙ is.worth in
    rw (long, worth, drop_at text rest n is.size) refl

-- ---- a flag and 33 bits

abbrev ticked : List ℕ → (Bool × ℕ) × List ℕ
ticked bytes = ((bit_of 7 (slice_index bytes 0), number_of 5 bytes % 2 ^ 33), drop 5 bytes)

abbrev pub IsTicksOf : Bool × ℕ → List ℕ → Type 0
IsTicksOf p text = IsTicks p.0 p.1 text

first_of : (n : ℕ) (bytes : List ℕ) → 5 ≤ length bytes → slice_index (take 5 bytes) 0 ≡ slice_index bytes 0
first_of n [] le = absurd (omega arith)
first_of n (b ∷ bytes) le = refl

ticks_sound_by : (b : Bool) (p : Bool × ℕ) (bytes rest : List ℕ) → nat_lt (length bytes) 5 ≡ b → (if b then None else Some (ticked bytes)) ≡ Some (p, rest) → HasFront (IsTicksOf p) bytes rest
ticks_sound_by true p bytes rest t h = absurd cc
ticks_sound_by false p bytes rest t h =
    let parts = some_pair_parts (ticked bytes).0 p (ticked bytes).1 rest h in
    let long : 5 ≤ length bytes = ltb-false (length bytes) 5 t in
    let size : length (take 5 bytes) ≡ 5 = omega (arith, length-take 5 bytes) in
    record {
      text = take 5 bytes;
      whole = sym (take-append-drop 5 bytes) ∙ ap (λ (xs : List ℕ). take 5 bytes ++ xs) parts.1;
      is = record {
        size = size;
        flagged = ap (bit_of 7) (first_of 5 bytes long) ∙ ap (λ (q : Bool × ℕ). q.0) parts.0;
        worth = ap (λ (n : ℕ). n % 2 ^ 33) (number_of-take 5 bytes long) ∙ ap (λ (q : Bool × ℕ). q.1) parts.0;
      };
    }

pub ticks_sound : (p : Bool × ℕ) (bytes rest : List ℕ) → ticks_at bytes ≡ Some (p, rest) → HasFront (IsTicksOf p) bytes rest
unfolding ticks_at
ticks_sound p bytes rest h = ticks_sound_by (nat_lt (length bytes) 5) p bytes rest refl h

pub ticks_back : (flag : Bool) (ticks : ℕ) (text rest : List ℕ) → IsTicks flag ticks text → ticks_at (text ++ rest) ≡ Some ((flag, ticks), rest)
unfolding ticks_at
ticks_back flag ticks text rest is =
    let long : nat_lt (length (text ++ rest)) 5 ≡ false = le-ltb (length (text ++ rest)) 5 (omega (arith, length-append text rest, is.size)) in
    let worth : number_of 5 (text ++ rest) ≡ number_of 5 text = number_of-append 5 text rest (omega (arith, is.size)) in
    let first : slice_index (text ++ rest) 0 ≡ slice_index text 0 = get_or_append_left text rest 0 0 (omega (arith, is.size)) in
    rw (long, worth, first, is.flagged, is.worth, drop_at text rest 5 is.size) refl

-- ---- bytes

pub byte_sound : (b : ℕ) (bytes rest : List ℕ) → byte_at bytes ≡ Some (b, rest) → bytes ≡ b ∷ rest
byte_sound b [] rest h = absurd cc
byte_sound b (x ∷ xs) rest h =
    let parts = some_pair_parts x b xs rest h in
    let first : x ≡ b = parts.0 in
    let others : xs ≡ rest = parts.1 in
    cc
