-- The descriptor loop: what is read was spelled, and what is spelled is read.
use Rattle.std.proofs.Common.{◌≡◌, ℕ, zero, suc, ◌≤◌, Bool, true, false, List, [], ◌∷◌, ◌++◌, length, take, drop, Option, Some, None, refl, sym, ap, subst, ◌∙◌, arith, append_assoc}
use Rattle.std.specs.Prelude.{nat_lt, ◌==◌, if◌then◌else◌}
use Rattle.std.specs.Option.{option_map_or}
use Rattle.std.specs.List.{flat_map}
use Rattle.std.proofs.lemmas.Bool.{ltb-false, le-ltb, eqb-true}
use Rattle.std.proofs.lemmas.List.{length-append, length-take, take_at, drop_at, take-append-drop, append-nil, nil_from_length}
use Rattle.std.proofs.lemmas.List.Concat.{flat_map-cons}
use Rattle.std.proofs.lemmas.Option.{some_pair_parts}
use Rattle.scte35_codec.specs.Fields.{number_at}
use Rattle.scte35_codec.specs.Descriptors.{SpliceDescriptor, descriptor_bytes, descriptor_at, descriptors_in, descriptors_of, descriptor_loop_at}
use Rattle.scte35_codec.specs.Grammar.{IsNumber, HasLoop}
use Rattle.scte35_codec.proofs.FieldLemmas.{bind_some, number_sound, number_back}
use Rattle.scte35_codec.proofs.DescriptorLemmas.{split_at, pushed, nothing, of_more}

-- ---- one descriptor

front_by : (b : Bool) (tag size : ℕ) (rest : List ℕ) (d : SpliceDescriptor) (after : List ℕ) → nat_lt (length rest) size ≡ b
    → (if b then None else Some (split_at tag size rest)) ≡ Some (d, after) → tag ∷ size ∷ rest ≡ descriptor_bytes d ++ after
front_by true tag size rest d after t h = absurd cc
front_by false tag size rest d after t h =
    let parts = some_pair_parts (split_at tag size rest).0 d (split_at tag size rest).1 after h in
    let le : size ≤ length rest = ltb-false (length rest) size t in
    let long : length (take size rest) ≡ size = omega (arith, length-take size rest) in
    let made : tag ∷ size ∷ rest ≡ descriptor_bytes (split_at tag size rest).0 ++ (split_at tag size rest).1 =
    ap (λ (xs : List ℕ). tag ∷ size ∷ xs) (sym (take-append-drop size rest)) ∙ ap (λ (n : ℕ). tag ∷ n ∷ (take size rest ++ drop size rest)) (sym long) in
    made ∙ ap (λ (x : SpliceDescriptor). descriptor_bytes x ++ drop size rest) parts.0 ∙ ap (λ (xs : List ℕ). descriptor_bytes d ++ xs) parts.1

descriptor_sound : (bytes : List ℕ) (d : SpliceDescriptor) (after : List ℕ) → descriptor_at bytes ≡ Some (d, after) → bytes ≡ descriptor_bytes d ++ after
unfolding descriptor_at
descriptor_sound [] d after h = absurd cc
descriptor_sound (a ∷ []) d after h = absurd cc
descriptor_sound (a ∷ b ∷ rest) d after h = front_by (nat_lt (length rest) b) a b rest d after refl h

descriptor_back : (d : SpliceDescriptor) (rest : List ℕ) → descriptor_at (descriptor_bytes d ++ rest) ≡ Some (d, rest)
unfolding descriptor_at
descriptor_back d rest =
    let long : nat_lt (length (d.body ++ rest)) (length d.body) ≡ false = le-ltb (length (d.body ++ rest)) (length d.body) (omega (arith, length-append d.body rest)) in
    rw (long, take_at d.body rest (length d.body) refl, drop_at d.body rest (length d.body) refl) refl

-- ---- one after another

module _ (n : ℕ) (fewer : (bytes : List ℕ) → bytes ≡ flat_map descriptor_bytes (descriptors_in n bytes).0 ++ (descriptors_in n bytes).1) where
  parts_by : (bytes : List ℕ) (r : Option (SpliceDescriptor × List ℕ)) → descriptor_at bytes ≡ r
      → let read : List SpliceDescriptor × List ℕ = option_map_or (λ (d : SpliceDescriptor × List ℕ). pushed d.0 (descriptors_in n d.1)) r (nothing bytes) in bytes ≡ flat_map descriptor_bytes read.0 ++ read.1
  parts_by bytes None e = refl
  parts_by bytes (Some d) e =
      let first = descriptor_sound bytes d.0 d.1 e in
      let others = fewer d.1 in
      let more = descriptors_in n d.1 in
      first ∙ ap (λ (xs : List ℕ). descriptor_bytes d.0 ++ xs) others ∙ sym (append_assoc (descriptor_bytes d.0) (flat_map descriptor_bytes more.0) more.1) ∙ ap (λ (xs : List ℕ). xs ++ more.1) (sym (flat_map-cons descriptor_bytes d.0 more.0))

in_parts : (n : ℕ) (bytes : List ℕ) → bytes ≡ flat_map descriptor_bytes (descriptors_in n bytes).0 ++ (descriptors_in n bytes).1
unfolding descriptors_in
in_parts zero bytes = refl
in_parts (suc n) bytes = parts_by n (in_parts n) bytes (descriptor_at bytes) refl

of_parts : (bytes : List ℕ) → bytes ≡ flat_map descriptor_bytes (descriptors_of bytes).0 ++ (descriptors_of bytes).1
unfolding descriptors_of
of_parts bytes = in_parts (length bytes) bytes

of_nil : descriptors_of [] ≡ nothing []
unfolding descriptors_of descriptors_in
of_nil = refl

of_back : (ds : List SpliceDescriptor) → descriptors_of (flat_map descriptor_bytes ds) ≡ (ds, [])
of_back [] = of_nil
of_back (d ∷ ds) =
    let rest = flat_map descriptor_bytes ds in
    let first : descriptor_at (flat_map descriptor_bytes (d ∷ ds)) ≡ Some (d, rest) = ap descriptor_at (flat_map-cons descriptor_bytes d ds) ∙ descriptor_back d rest in
    of_more (flat_map descriptor_bytes (d ∷ ds)) d rest first ∙ ap (λ (more : List SpliceDescriptor × List ℕ). pushed d more) (of_back ds)

-- ---- the loop

some_is : (a b : List SpliceDescriptor) → ◌≡◌ {A = Option (List SpliceDescriptor)} (Some a) (Some b) → a ≡ b
some_is a b e = cc

filled_by : (b : Bool) (size : ℕ) (bytes size_text rest : List ℕ) (ds : List SpliceDescriptor) → bytes ≡ size_text ++ rest → IsNumber 2 size size_text → size ≤ length rest
    → (length (descriptors_of (take size rest)).1 == 0) ≡ b → (if b then Some (descriptors_of (take size rest)).0 else None) ≡ Some ds → HasLoop ds bytes
filled_by false size bytes size_text rest ds e is le t h = absurd cc
filled_by true size bytes size_text rest ds e is le t h =
    let same = some_is (descriptors_of (take size rest)).0 ds h in
    let nothing_left : (descriptors_of (take size rest)).1 ≡ [] = nil_from_length (descriptors_of (take size rest)).1 (eqb-true (length (descriptors_of (take size rest)).1) 0 t) in
    let loop : take size rest ≡ flat_map descriptor_bytes ds =
    of_parts (take size rest) ∙ ap (λ (xs : List ℕ). flat_map descriptor_bytes (descriptors_of (take size rest)).0 ++ xs) nothing_left ∙ append-nil (flat_map descriptor_bytes (descriptors_of (take size rest)).0) ∙ ap (λ (x : List SpliceDescriptor). flat_map descriptor_bytes x) same in
    let long : length (flat_map descriptor_bytes ds) ≡ size = omega (arith, ap length loop, length-take size rest) in
    record {
      size = size_text;
      passed = drop size rest;
      whole = e ∙ ap (λ (xs : List ℕ). size_text ++ xs) (sym (take-append-drop size rest) ∙ ap (λ (xs : List ℕ). xs ++ drop size rest) loop);
      descriptor_loop_length = subst (λ (n : ℕ). IsNumber 2 n size_text) (sym long) is;
    }

sized_by : (b : Bool) (size : ℕ) (bytes size_text rest : List ℕ) (ds : List SpliceDescriptor) → bytes ≡ size_text ++ rest → IsNumber 2 size size_text → nat_lt (length rest) size ≡ b
    → (if b then None else (if length (descriptors_of (take size rest)).1 == 0 then Some (descriptors_of (take size rest)).0 else None)) ≡ Some ds → HasLoop ds bytes
sized_by true size bytes size_text rest ds e is t h = absurd cc
sized_by false size bytes size_text rest ds e is t h = filled_by (length (descriptors_of (take size rest)).1 == 0) size bytes size_text rest ds e is (ltb-false (length rest) size t) refl h

pub loop_sound : (bytes : List ℕ) (ds : List SpliceDescriptor) → descriptor_loop_at bytes ≡ Some ds → HasLoop ds bytes
unfolding descriptor_loop_at
loop_sound bytes ds h =
    let step = bind_some (number_at 2 bytes) (λ (size : ℕ × List ℕ). if nat_lt (length size.1) size.0 then None else (if length (descriptors_of (take size.0 size.1)).1 == 0 then Some (descriptors_of (take size.0 size.1)).0 else None)) ds h in
    let size = number_sound 2 step.0.0 bytes step.0.1 step.1 in
    sized_by (nat_lt (length step.0.1) step.0.0) step.0.0 bytes size.text step.0.1 ds size.whole size.is refl step.2

pub loop_back : (bytes : List ℕ) (ds : List SpliceDescriptor) → HasLoop ds bytes → descriptor_loop_at bytes ≡ Some ds
unfolding descriptor_loop_at
loop_back bytes ds is =
    let loop = flat_map descriptor_bytes ds in
    let size = number_back 2 (length loop) is.size (loop ++ is.passed) is.descriptor_loop_length in
    let long : nat_lt (length (loop ++ is.passed)) (length loop) ≡ false = le-ltb (length (loop ++ is.passed)) (length loop) (omega (arith, length-append loop is.passed)) in
    ap descriptor_loop_at is.whole ∙ rw (size, long, take_at loop is.passed (length loop) refl, of_back ds) refl
