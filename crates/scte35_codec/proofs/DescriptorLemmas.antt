-- One descriptor after another.
use Rattle.std.proofs.Common.{◌≡◌, ◌≢◌, ℕ, zero, suc, ◌+◌, ◌≤◌, Bool, true, false, List, [], ◌∷◌, length, take, drop, Option, Some, None, refl, sym, ap, ◌∙◌, arith}
use Rattle.std.specs.Prelude.{nat_lt, if◌then◌else◌}
use Rattle.std.specs.Option.{option_map_or}
use Rattle.std.proofs.lemmas.List.{length-drop}
use Rattle.std.proofs.lemmas.Option.{some_pair_parts}
use Rattle.wire_fields.specs.Numbers.{number_of}
use Rattle.scte35_codec.specs.Descriptors.{SpliceDescriptor, descriptor_at, descriptors_in, descriptors_of, is_avail, avail_id}

abbrev pub split_at : ℕ → ℕ → List ℕ → SpliceDescriptor × List ℕ
split_at tag size rest = (record { tag = tag; body = take size rest }, drop size rest)

abbrev pub pushed : SpliceDescriptor → List SpliceDescriptor × List ℕ → List SpliceDescriptor × List ℕ
pushed d more = (d ∷ more.0, more.1)

abbrev pub nothing : List ℕ → List SpliceDescriptor × List ℕ
nothing bytes = ([], bytes)

split_shorter : (b : Bool) (tag size : ℕ) (rest : List ℕ) (d : SpliceDescriptor) (after : List ℕ)
    → (if b then None else Some (split_at tag size rest)) ≡ Some (d, after) → length after ≤ length rest
split_shorter true tag size rest d after h = absurd cc
split_shorter false tag size rest d after h =
    let parts = some_pair_parts (split_at tag size rest).0 d (split_at tag size rest).1 after h in
    let same : drop size rest ≡ after = parts.1 in
    omega (arith, length-drop size rest, ap length same)

-- a descriptor has two bytes at least
pub descriptor_shorter : (bytes : List ℕ) (d : SpliceDescriptor) (after : List ℕ) → descriptor_at bytes ≡ Some (d, after) → length after + 2 ≤ length bytes
unfolding descriptor_at
descriptor_shorter [] d after h = absurd cc
descriptor_shorter (a ∷ []) d after h = absurd cc
descriptor_shorter (a ∷ b ∷ rest) d after h =
    let le = split_shorter (nat_lt (length rest) b) a b rest d after h in
    omega arith

-- as many steps as bytes are enough
module _ (m n : ℕ) (fewer : (bytes : List ℕ) → length bytes ≤ m → length bytes ≤ n → descriptors_in m bytes ≡ descriptors_in n bytes) where
  enough_by : (bytes : List ℕ) (r : Option (SpliceDescriptor × List ℕ)) → descriptor_at bytes ≡ r → length bytes ≤ suc m → length bytes ≤ suc n
      → option_map_or (λ (d : SpliceDescriptor × List ℕ). pushed d.0 (descriptors_in m d.1)) r (nothing bytes)
      ≡ option_map_or (λ (d : SpliceDescriptor × List ℕ). pushed d.0 (descriptors_in n d.1)) r (nothing bytes)
  enough_by bytes None e hm hn = refl
  enough_by bytes (Some d) e hm hn =
      let short = descriptor_shorter bytes d.0 d.1 e in
      let same = fewer d.1 (omega arith) (omega arith) in
      ap (λ (more : List SpliceDescriptor × List ℕ). pushed d.0 more) same

none_left : (n : ℕ) → descriptors_in n [] ≡ nothing []
unfolding descriptors_in descriptor_at
none_left zero = refl
none_left (suc n) = refl

empty_is : (bytes : List ℕ) → length bytes ≤ 0 → bytes ≡ []
empty_is [] h = refl
empty_is (b ∷ bytes) h = absurd (omega arith)

pub enough : (m n : ℕ) (bytes : List ℕ) → length bytes ≤ m → length bytes ≤ n → descriptors_in m bytes ≡ descriptors_in n bytes
unfolding descriptors_in
enough zero n bytes hm hn = let e = empty_is bytes hm in rw e (none_left 0 ∙ sym (none_left n))
enough (suc m) zero bytes hm hn = let e = empty_is bytes hn in rw e (none_left (suc m) ∙ sym (none_left 0))
enough (suc m) (suc n) bytes hm hn = enough_by m n (enough m n) bytes (descriptor_at bytes) refl hm hn

of_by : (bytes : List ℕ) (n : ℕ) (d : SpliceDescriptor) (after : List ℕ) → length bytes ≡ n → descriptor_at bytes ≡ Some (d, after)
    → descriptors_in n bytes ≡ pushed d (descriptors_of after)
unfolding descriptors_in descriptors_of
of_by bytes zero d after size e = let short = descriptor_shorter bytes d after e in absurd (omega arith)
of_by bytes (suc n) d after size e =
    let short = descriptor_shorter bytes d after e in
    let same = enough n (length after) after (omega arith) (omega arith) in
    rw (e, same) refl

pub of_more : (bytes : List ℕ) (d : SpliceDescriptor) (after : List ℕ) → descriptor_at bytes ≡ Some (d, after)
    → descriptors_of bytes ≡ pushed d (descriptors_of after)
unfolding descriptors_of
of_more bytes d after e = of_by bytes (length bytes) d after refl e

of_none_by : (bytes : List ℕ) (n : ℕ) → descriptor_at bytes ≡ None → descriptors_in n bytes ≡ nothing bytes
unfolding descriptors_in
of_none_by bytes zero e = refl
of_none_by bytes (suc n) e = rw e refl

pub of_none : (bytes : List ℕ) → descriptor_at bytes ≡ None → descriptors_of bytes ≡ nothing bytes
unfolding descriptors_of
of_none bytes e = of_none_by bytes (length bytes) e

-- ---- the avail descriptors

pub other_tag : (tag : ℕ) (body : List ℕ) → tag ≢ 0 → avail_id (record { tag = tag; body = body }) ≡ None
unfolding avail_id is_avail
other_tag tag body h = grind arith

pub other_size : (tag : ℕ) (body : List ℕ) → length body ≢ 8 → avail_id (record { tag = tag; body = body }) ≡ None
unfolding avail_id is_avail
other_size tag body h = grind arith

pub other_identifier : (tag : ℕ) (body : List ℕ) → number_of 4 body ≢ 0x43554549 → avail_id (record { tag = tag; body = body }) ≡ None
unfolding avail_id is_avail
other_identifier tag body h = grind arith

pub avail_is : (tag : ℕ) (body : List ℕ) → tag ≡ 0 → length body ≡ 8 → number_of 4 body ≡ 0x43554549 → avail_id (record { tag = tag; body = body }) ≡ Some (number_of 4 (drop 4 body))
unfolding avail_id is_avail
avail_is tag body t s i = rw (t, s, i) refl
