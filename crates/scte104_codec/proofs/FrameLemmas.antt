-- What a frame that is whole says of the bytes.
use Rattle.std.proofs.Common.{◌≡◌, ◌≢◌, ℕ, ◌-◌, ◌≤◌, List, length, Bool, true, false, Option, Some, None, refl, sym, ap, ◌∙◌, arith, [], ◌∷◌, ◌++◌}
use Rattle.std.specs.Prelude.{nat_lt, if◌then◌else◌}
use Rattle.std.proofs.lemmas.Bool.{ltb-false, le-ltb}
use Rattle.scte104_codec.specs.declared.framing.Frame.TheVariants.{NeedMore, Whole}
use Rattle.wire_fields.specs.Numbers.{number16_at}
use Rattle.scte104_codec.specs.Framing.{least_size, size_in, frame_by, frame_of}

-- a size that stands there is the field, and no less than the least
pub record IsSize (bytes : List ℕ) (size : ℕ) : Type 0 where
  pub field : size ≡ number16_at bytes 2
  pub least : least_size bytes ≤ size

size_by : (b : Bool) (n least size : ℕ) → nat_lt n least ≡ b → (if b then None else Some n) ≡ Some size → (size ≡ n) × (least ≤ size)
size_by true n least size e h = absurd cc
size_by false n least size e h =
    let same : n ≡ size = cc in
    let le : least ≤ n = ltb-false n least e in
    (sym same, omega arith)

pub is_size : (bytes : List ℕ) (size : ℕ) → size_in bytes ≡ Some size → IsSize bytes size
unfolding size_in
is_size bytes size h =
    let p = size_by _ (number16_at bytes 2) (least_size bytes) size refl h in
    record { field = p.0; least = p.1 }

-- a message that is whole
pub record IsWhole (bytes : List ℕ) (size : ℕ) : Type 0 where
  pub four : 4 ≤ length bytes
  pub sized : size_in bytes ≡ Some size
  pub fits : size ≤ length bytes

pub whole_sized : (b : Bool) (bytes : List ℕ) (n size : ℕ) → nat_lt (length bytes) n ≡ b → (if b then NeedMore (n - length bytes) else Whole n) ≡ Whole size → (n ≡ size) × (size ≤ length bytes)
whole_sized true bytes n size e h = absurd cc
whole_sized false bytes n size e h =
    let same : n ≡ size = cc in
    let le : n ≤ length bytes = ltb-false (length bytes) n e in
    (same, omega arith)

pub whole_by : (bytes : List ℕ) (o : Option ℕ) (size : ℕ) → size_in bytes ≡ o → frame_by bytes o ≡ Whole size → (size_in bytes ≡ Some size) × (size ≤ length bytes)
whole_by bytes None size e h = absurd cc
whole_by bytes (Some n) size e h =
    let p = whole_sized _ bytes n size refl h in
    (e ∙ ap (λ (k : ℕ). Some k) p.0, p.1)

whole_long : (b : Bool) (bytes : List ℕ) (size : ℕ) → nat_lt (length bytes) 4 ≡ b → (if b then NeedMore (4 - length bytes) else frame_by bytes (size_in bytes)) ≡ Whole size → IsWhole bytes size
whole_long true bytes size e h = absurd cc
whole_long false bytes size e h =
    let p = whole_by bytes (size_in bytes) size refl h in
    record { four = ltb-false (length bytes) 4 e; sized = p.0; fits = p.1 }

pub is_whole : (bytes : List ℕ) (size : ℕ) → frame_of bytes ≡ Whole size → IsWhole bytes size
unfolding frame_of
is_whole bytes size h = whole_long _ bytes size refl h

-- ---- of all bytes

pub whole_four : (bytes : List ℕ) → frame_of bytes ≡ Whole (length bytes) → 4 ≤ length bytes
whole_four bytes h = (is_whole bytes (length bytes) h).four

pub whole_multiple : (bytes : List ℕ) → frame_of bytes ≡ Whole (length bytes) → number16_at bytes 0 ≡ 65535 → 12 ≤ length bytes
whole_multiple bytes h e =
    let w = is_whole bytes (length bytes) h in
    let s = is_size bytes (length bytes) w.sized in
    let l : least_size bytes ≡ 12 = rw e refl in
    omega (arith, s.least, l)

least_single : (bytes : List ℕ) → number16_at bytes 0 ≢ 65535 → least_size bytes ≡ 13
least_single bytes e = grind (arith, e)

pub whole_single : (bytes : List ℕ) → frame_of bytes ≡ Whole (length bytes) → number16_at bytes 0 ≢ 65535 → 13 ≤ length bytes
whole_single bytes h e =
    let w = is_whole bytes (length bytes) h in
    let s = is_size bytes (length bytes) w.sized in
    let l = least_single bytes e in
    omega (arith, s.least, l)

-- ---- a frame that is whole, from its size

pub framed : (bytes : List ℕ) (size : ℕ) → 4 ≤ length bytes → number16_at bytes 2 ≡ size → least_size bytes ≤ size → size ≤ length bytes → frame_of bytes ≡ Whole size
unfolding frame_of size_in
framed bytes size four field least fits =
    rw (le-ltb (length bytes) 4 four, field, le-ltb size (least_size bytes) least, le-ltb (length bytes) size fits) refl

pub least_at_most : (bytes : List ℕ) → least_size bytes ≤ 13
least_at_most bytes = grind arith

pub least_several : (bytes : List ℕ) → number16_at bytes 0 ≡ 65535 → least_size bytes ≡ 12
least_several bytes e = rw e refl

-- ---- what stands at the front

pub least_twelve : (bytes : List ℕ) → 12 ≤ least_size bytes
least_twelve bytes = grind arith

pub size_goes_on : (xs more : List ℕ) → 4 ≤ length xs → size_in (xs ++ more) ≡ size_in xs
unfolding size_in number16_at
size_goes_on [] more le = absurd (omega arith)
size_goes_on (a ∷ []) more le = absurd (omega arith)
size_goes_on (a ∷ b ∷ []) more le = absurd (omega arith)
size_goes_on (a ∷ b ∷ c ∷ []) more le = absurd (omega arith)
size_goes_on (a ∷ b ∷ c ∷ d ∷ xs) more le = refl

pub frame_whole : (bytes : List ℕ) (size : ℕ) → 4 ≤ length bytes → size_in bytes ≡ Some size → size ≤ length bytes → frame_of bytes ≡ Whole size
unfolding frame_of
frame_whole bytes size four sized fits = rw (le-ltb (length bytes) 4 four, sized, le-ltb (length bytes) size fits) refl
