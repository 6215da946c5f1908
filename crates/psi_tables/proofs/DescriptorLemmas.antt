-- Descriptors, one after another.
use Rattle.std.proofs.Common.{◌≡◌, ℕ, ◌+◌, ◌<◌, ◌≤◌, List, [], ◌∷◌, ◌++◌, length, take, drop, slice_index, Bool, true, false, Option, Some, None, refl, sym, ap, subst, ◌∙◌, arith, append_assoc}
use Rattle.std.specs.Prelude.{nat_lt, ◌==◌, ◌&&◌, if◌then◌else◌, is_some, option_map}
use Rattle.std.proofs.lemmas.Bool.{ltb-false, le-ltb}
use Rattle.std.proofs.lemmas.List.{length-drop, length-take, length-append, take_at, drop_at, take-append-drop, drop-drop, append-nil}
use Rattle.std.proofs.lemmas.Option.{some_pair_parts}
use Rattle.wire_fields.specs.Numbers.{AreBytes}
use Rattle.psi_tables.specs.Runs.{run_of, things_of}
use Rattle.psi_tables.specs.Descriptors.{Descriptor, IsDescriptor, descriptor_bytes, descriptor_at, shown_descriptor, registers_cues, without_registration}
use Rattle.psi_tables.specs.ProgramMap.{descriptors_bytes}
use Rattle.psi_tables.proofs.RunLemmas.{Shortens, SpelledFirst, things_more, things_ended, fills_more, fills_ends, fills_done}

abbrev pub split_descriptor : List ℕ → Descriptor × List ℕ
split_descriptor bytes = (record { tag = slice_index bytes 0; body = take (slice_index bytes 1) (drop 2 bytes) }, drop (2 + slice_index bytes 1) bytes)

shorter_by : (b : Bool) (bytes : List ℕ) (d : Descriptor) (rest : List ℕ) → nat_lt (length bytes) (2 + slice_index bytes 1) ≡ b
    → (if b then None else Some (split_descriptor bytes)) ≡ Some (d, rest) → length rest < length bytes
shorter_by true bytes d rest t h = absurd cc
shorter_by false bytes d rest t h =
    let long = ltb-false (length bytes) (2 + slice_index bytes 1) t in
    let is = (some_pair_parts (split_descriptor bytes).0 d (split_descriptor bytes).1 rest h).1 in
    let size = ap (λ (xs : List ℕ). length xs) is in
    omega (arith, length-drop (2 + slice_index bytes 1) bytes)

pub descriptor_shortens : Shortens descriptor_at
unfolding descriptor_at
descriptor_shortens bytes d rest h = shorter_by _ bytes d rest refl h

-- what is shown of the descriptor at the front
pub record FrontDescriptor (bytes front rest : List ℕ) : Type 0 where
  pub descriptor : Descriptor
  pub taken : descriptor_at bytes ≡ Some (descriptor, rest)
  pub front-is : take (2 + slice_index bytes 1) bytes ≡ front

some_same : (a b : List ℕ × List ℕ) → ◌≡◌ {A = Option (List ℕ × List ℕ)} (Some a) (Some b) → a ≡ b
some_same a b h = cc

shown_by : (bytes : List ℕ) (r : Option (Descriptor × List ℕ)) (front rest : List ℕ) → descriptor_at bytes ≡ r → Some (front, rest) ≡ option_map (shown_descriptor bytes) r → FrontDescriptor bytes front rest
shown_by bytes None front rest e h = absurd cc
shown_by bytes (Some x) front rest e h =
    let same = some_same (front, rest) (shown_descriptor bytes x) h in
    let same-rest : x.1 ≡ rest = sym (ap (λ (t : List ℕ × List ℕ). t.1) same) in
    record { descriptor = x.0; taken = e ∙ ap (λ (r : List ℕ). Some (x.0, r)) same-rest; front-is = sym (ap (λ (t : List ℕ × List ℕ). t.0) same) }

pub shown : (bytes front rest : List ℕ) → Some (front, rest) ≡ option_map (shown_descriptor bytes) (descriptor_at bytes) → FrontDescriptor bytes front rest
shown bytes front rest h = shown_by bytes (descriptor_at bytes) front rest refl h

none_by : (bytes : List ℕ) (r : Option (Descriptor × List ℕ)) → None ≡ option_map (shown_descriptor bytes) r → r ≡ None
none_by bytes None h = refl
none_by bytes (Some x) h = absurd cc

pub no_descriptor : (bytes : List ℕ) → None ≡ option_map (shown_descriptor bytes) (descriptor_at bytes) → descriptor_at bytes ≡ None
no_descriptor bytes h = none_by bytes (descriptor_at bytes) h

pub descriptor_shorter : (bytes front rest : List ℕ) → Some (front, rest) ≡ option_map (shown_descriptor bytes) (descriptor_at bytes) → length rest < length bytes
descriptor_shorter bytes front rest h =
    let f = shown bytes front rest h in
    descriptor_shortens bytes f.descriptor rest f.taken

pub descriptors_fill_more : (bytes front rest : List ℕ) → Some (front, rest) ≡ option_map (shown_descriptor bytes) (descriptor_at bytes) → is_some (run_of descriptor_at bytes) ≡ is_some (run_of descriptor_at rest)
descriptors_fill_more bytes front rest h =
    let f = shown bytes front rest h in
    fills_more descriptor_at descriptor_shortens bytes f.descriptor rest f.taken

pub descriptors_fill_ends : (bytes : List ℕ) → None ≡ option_map (shown_descriptor bytes) (descriptor_at bytes) → 0 < length bytes → is_some (run_of descriptor_at bytes) ≡ false
descriptors_fill_ends bytes h some = fills_ends descriptor_at descriptor_shortens bytes (no_descriptor bytes h) some

pub descriptors_fill_done : (bytes : List ℕ) → length bytes ≡ 0 → is_some (run_of descriptor_at bytes) ≡ true
descriptors_fill_done bytes h = fills_done descriptor_at descriptor_shortens bytes h

-- ---- what was taken from the front

two_front : (xs : List ℕ) → 2 ≤ length xs → xs ≡ slice_index xs 0 ∷ slice_index xs 1 ∷ drop 2 xs
two_front [] le = absurd (omega arith)
two_front (a ∷ []) le = absurd (omega arith)
two_front (a ∷ b ∷ rest) le = refl

pub record TakesDescriptor (bytes : List ℕ) (d : Descriptor) (rest : List ℕ) : Type 0 where
  pub parts : bytes ≡ descriptor_bytes d ++ rest
  pub front : take (2 + slice_index bytes 1) bytes ≡ descriptor_bytes d
  pub size-is : length d.body ≡ slice_index bytes 1
  pub tag-is : d.tag ≡ slice_index bytes 0

taken_by : (b : Bool) (bytes : List ℕ) (d : Descriptor) (rest : List ℕ) → nat_lt (length bytes) (2 + slice_index bytes 1) ≡ b
    → (if b then None else Some (split_descriptor bytes)) ≡ Some (d, rest) → TakesDescriptor bytes d rest
taken_by true bytes d rest t h = absurd cc
taken_by false bytes d rest t h =
    let n = slice_index bytes 1 in
    let long : 2 + n ≤ length bytes = ltb-false (length bytes) (2 + n) t in
    let is = some_pair_parts (split_descriptor bytes).0 d (split_descriptor bytes).1 rest h in
    let body = take n (drop 2 bytes) in
    let size : length body ≡ n = omega (arith, length-take n (drop 2 bytes), length-drop 2 bytes) in
    let front = two_front bytes (omega arith) in
    let split : drop 2 bytes ≡ body ++ drop (2 + n) bytes = sym (take-append-drop n (drop 2 bytes)) ∙ ap (λ (xs : List ℕ). body ++ xs) (drop-drop n 2 bytes) in
    let whole : bytes ≡ slice_index bytes 0 ∷ length body ∷ body ++ drop (2 + n) bytes =
    front ∙ ap (λ (xs : List ℕ). slice_index bytes 0 ∷ slice_index bytes 1 ∷ xs) split ∙ ap (λ (k : ℕ). slice_index bytes 0 ∷ k ∷ body ++ drop (2 + n) bytes) (sym size) in
    let long-front : length (slice_index bytes 0 ∷ length body ∷ body) ≡ 2 + n = omega arith in
    let taken : take (2 + n) bytes ≡ slice_index bytes 0 ∷ length body ∷ body =
    ap (λ (xs : List ℕ). take (2 + n) xs) whole ∙ take_at (slice_index bytes 0 ∷ length body ∷ body) (drop (2 + n) bytes) (2 + n) long-front in
    let made : TakesDescriptor bytes (split_descriptor bytes).0 (drop (2 + n) bytes) = record { parts = whole; front = taken; size-is = size; tag-is = refl } in
    subst (λ (x : Descriptor). TakesDescriptor bytes x rest) is.0 (subst (λ (r : List ℕ). TakesDescriptor bytes (split_descriptor bytes).0 r) is.1 made)

pub descriptor_taken : (bytes : List ℕ) (d : Descriptor) (rest : List ℕ) → descriptor_at bytes ≡ Some (d, rest) → TakesDescriptor bytes d rest
unfolding descriptor_at
descriptor_taken bytes d rest h = taken_by _ bytes d rest refl h

-- ---- without the registration descriptor at the end

abbrev pub kept_of : List ℕ → List ℕ
kept_of bytes = descriptors_bytes (without_registration (things_of descriptor_at bytes))

pub none_kept : (bytes : List ℕ) → None ≡ option_map (shown_descriptor bytes) (descriptor_at bytes) → kept_of bytes ≡ []
unfolding without_registration
none_kept bytes h = ap (λ (ds : List Descriptor). descriptors_bytes (without_registration ds)) (things_ended descriptor_at descriptor_shortens bytes (no_descriptor bytes h))

no_things : (bytes : List ℕ) → length bytes ≡ 0 → things_of descriptor_at bytes ≡ []
unfolding descriptor_at
no_things [] e = things_ended descriptor_at descriptor_shortens [] refl
no_things (b ∷ bytes) e = absurd (omega arith)

pub last_dropped : (bytes front rest : List ℕ) → Some (front, rest) ≡ option_map (shown_descriptor bytes) (descriptor_at bytes) → length rest ≡ 0 → registers_cues front ≡ true → kept_of bytes ≡ []
unfolding without_registration
last_dropped bytes front rest h end is =
    let f = shown bytes front rest h in
    let t = descriptor_taken bytes f.descriptor rest f.taken in
    let same : front ≡ descriptor_bytes f.descriptor = sym f.front-is ∙ t.front in
    let registers : registers_cues (descriptor_bytes f.descriptor) ≡ true = rw (← same) is in
    let things : things_of descriptor_at bytes ≡ f.descriptor ∷ [] = things_more descriptor_at descriptor_shortens bytes f.descriptor rest f.taken ∙ ap (λ (ds : List Descriptor). f.descriptor ∷ ds) (no_things rest end) in
    ap (λ (ds : List Descriptor). descriptors_bytes (without_registration ds)) things ∙ rw registers refl

-- what is behind another is kept with it
behind_by : (d : Descriptor) (rest : List ℕ) (r : Option (Descriptor × List ℕ)) → descriptor_at rest ≡ r → is_some (run_of descriptor_at rest) ≡ true → 0 < length rest
    → without_registration (d ∷ things_of descriptor_at rest) ≡ d ∷ without_registration (things_of descriptor_at rest)
unfolding without_registration
behind_by d rest None e all some =
    let none = fills_ends descriptor_at descriptor_shortens rest e some in
    absurd cc
behind_by d rest (Some x) e all some = rw (things_more descriptor_at descriptor_shortens rest x.0 x.1 e) refl

alone_by : (d : Descriptor) (rest : List ℕ) → length rest ≡ 0 → registers_cues (descriptor_bytes d) ≡ false → without_registration (d ∷ things_of descriptor_at rest) ≡ d ∷ without_registration (things_of descriptor_at rest)
unfolding without_registration
alone_by d rest end is = rw (no_things rest end, is) refl

stays : (d : Descriptor) (rest : List ℕ) → is_some (run_of descriptor_at rest) ≡ true → (length rest ≡ 0 → registers_cues (descriptor_bytes d) ≡ false)
    → without_registration (d ∷ things_of descriptor_at rest) ≡ d ∷ without_registration (things_of descriptor_at rest)
stays d [] all last = alone_by d [] refl (last refl)
stays d (b ∷ rest) all last = behind_by d (b ∷ rest) (descriptor_at (b ∷ rest)) refl all (omega arith)

pub descriptor_kept : (kept bytes front rest total : List ℕ) → Some (front, rest) ≡ option_map (shown_descriptor bytes) (descriptor_at bytes) → is_some (run_of descriptor_at bytes) ≡ true
    → (length rest ≡ 0 → registers_cues front ≡ false) → kept ++ kept_of bytes ≡ total → (kept ++ front) ++ kept_of rest ≡ total
descriptor_kept kept bytes front rest total h all last so_far =
    let f = shown bytes front rest h in
    let d = f.descriptor in
    let t = descriptor_taken bytes d rest f.taken in
    let same : front ≡ descriptor_bytes d = sym f.front-is ∙ t.front in
    let all-rest : is_some (run_of descriptor_at rest) ≡ true = sym (fills_more descriptor_at descriptor_shortens bytes d rest f.taken) ∙ all in
    let still = stays d rest all-rest (λ e. rw (← same) (last e)) in
    let things = things_more descriptor_at descriptor_shortens bytes d rest f.taken in
    let one : kept_of bytes ≡ front ++ kept_of rest =
    ap (λ (ds : List Descriptor). descriptors_bytes (without_registration ds)) things ∙ ap descriptors_bytes still ∙ ap (λ (xs : List ℕ). xs ++ kept_of rest) (sym same) in
    append_assoc kept front (kept_of rest) ∙ ap (λ (xs : List ℕ). kept ++ xs) (sym one) ∙ so_far

pub front_fits : (bytes front rest : List ℕ) → Some (front, rest) ≡ option_map (shown_descriptor bytes) (descriptor_at bytes) → length front + length rest ≡ length bytes
front_fits bytes front rest h =
    let f = shown bytes front rest h in
    let t = descriptor_taken bytes f.descriptor rest f.taken in
    let same : front ≡ descriptor_bytes f.descriptor = sym f.front-is ∙ t.front in
    let whole : bytes ≡ front ++ rest = t.parts ∙ ap (λ (xs : List ℕ). xs ++ rest) (sym same) in
    let size = ap (λ (xs : List ℕ). length xs) whole in
    omega (arith, length-append front rest)

pub kept_all : (kept rest total : List ℕ) → rest ≡ [] → kept ++ rest ≡ total → kept ≡ total
kept_all kept rest total e h = sym (append-nil kept) ∙ ap (λ (xs : List ℕ). kept ++ xs) (sym e) ∙ h

pub last_of : (front rest : List ℕ) → ((length rest == 0) && registers_cues front) ≡ false → length rest ≡ 0 → registers_cues front ≡ false
last_of front [] t e = t
last_of front (b ∷ rest) t e = absurd (omega arith)

pub descriptor_fits : (bytes : List ℕ) (d : Descriptor) (rest : List ℕ) → AreBytes bytes → descriptor_at bytes ≡ Some (d, rest) → SpelledFirst descriptor_bytes IsDescriptor bytes d rest
descriptor_fits bytes d rest are h =
    let t = descriptor_taken bytes d rest h in
    let size = are 1 in
    let tag = are 0 in
    let size-is = t.size-is in
    let tag-is = t.tag-is in
    record { parts = t.parts; fits = record { tag = omega arith; size = omega arith } }

pub descriptor_back : (d : Descriptor) (rest : List ℕ) → IsDescriptor d → descriptor_at (descriptor_bytes d ++ rest) ≡ Some (d, rest)
unfolding descriptor_at
descriptor_back d rest is =
    let n = length d.body in
    let bytes = descriptor_bytes d ++ rest in
    let whole = length-append d.body rest in
    let long : nat_lt (length bytes) (2 + n) ≡ false = le-ltb (length bytes) (2 + n) (omega arith) in
    rw (long, ← drop-drop n 2 bytes, take_at d.body rest n refl, drop_at d.body rest n refl) refl
