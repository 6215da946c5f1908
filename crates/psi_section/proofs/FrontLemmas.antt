-- Bytes and the sections with which they begin.
use Rattle.std.proofs.Common.{◌≡◌, ℕ, zero, suc, ◌+◌, ◌-◌, ◌*◌, ◌%◌, ◌<◌, ◌≤◌, List, [], ◌∷◌, ◌++◌, true, false, if◌then◌else◌, ◌==◌, nat_le, nat_lt, Some, refl, sym, ap, ◌∙◌, arith, length, take, drop, length-append}
use Rattle.std.proofs.lemmas.Bool.{leb-true, ltb-false, le-ltb, le-leb, lt-leb}
use Rattle.std.proofs.lemmas.List.{append-nil, length-take-le, take_at, drop_at}
use Rattle.std.proofs.Math.Seq.{drop-nil}
use Rattle.ts_packet.proofs.Cases.{by_test}
use Rattle.psi_section.specs.declared.front.Front.{Front}
use Rattle.psi_section.specs.declared.front.Front.TheVariants.{Nothing, Whole, Part}
use Rattle.psi_section.specs.Sections.{front_by, front_of, Assembled, nothing, with_section, taken_past, taken, after, continued}

-- ---- what a front says

-- what is known of bytes that begin with a whole section: they are some, and not stuffing; the size and its bounds
pub record WholeSays (bs : List ℕ) (n : ℕ) : Type 0 where
  pub at_least : 3 ≤ n
  pub at_most : n ≤ 4096
  pub there : n ≤ length bs

sized_whole : (size have n : ℕ) → front_by (Some size) have ≡ Whole n → (size ≡ n) × (size ≤ 4096) × (size ≤ have)
sized_whole size have n h =
    by_test (nat_lt 4096 size)
    (λ y. absurd (let e = simp y at h in cc))
    (λ y. by_test (nat_le size have)
    (λ z. let e = simp (y, z) at h in (cc, ltb-false 4096 size y, leb-true size have z))
    (λ z. absurd (let e = simp (y, z) at h in cc)))

pub front_whole : (x y z n : ℕ) (bs : List ℕ) → front_of (x ∷ y ∷ z ∷ bs) ≡ Whole n
    → (x == 0xFF ≡ false) × (y % 16 * 256 + z + 3 ≡ n) × (y % 16 * 256 + z + 3 ≤ 4096) × (y % 16 * 256 + z + 3 ≤ length (x ∷ y ∷ z ∷ bs))
front_whole x y z n bs h =
    by_test (x == 0xFF)
    (λ s. absurd (let e = simp s at h in cc))
    (λ s. let e : front_by (Some (y % 16 * 256 + z + 3)) (length (x ∷ y ∷ z ∷ bs)) ≡ Whole n = simp s at h in
    let k = sized_whole (y % 16 * 256 + z + 3) (length (x ∷ y ∷ z ∷ bs)) n e in
    (s, k.0, k.1, k.2))

pub not_yet : (x n : ℕ) → (if x == 0xFF then Nothing else Part) ≡ Whole n → ⊥
not_yet x n h = by_test (x == 0xFF) (λ s. let e = simp s at h in cc) (λ s. let e = simp s at h in cc)

pub whole_says : (bs : List ℕ) (n : ℕ) → front_of bs ≡ Whole n → WholeSays bs n
whole_says [] n h = absurd (cc)
whole_says (x ∷ []) n h = absurd (not_yet x n h)
whole_says (x ∷ y ∷ []) n h = absurd (not_yet x n h)
whole_says (x ∷ y ∷ z ∷ bs) n h =
    let k = front_whole x y z n bs h in
    record { at_least = omega arith; at_most = omega arith; there = omega arith }

pub front_from : (x y z : ℕ) (bs : List ℕ) → (x == 0xFF) ≡ false → y % 16 * 256 + z + 3 ≤ 4096 → y % 16 * 256 + z + 3 ≤ length (x ∷ y ∷ z ∷ bs)
    → front_of (x ∷ y ∷ z ∷ bs) ≡ Whole (y % 16 * 256 + z + 3)
front_from x y z bs s h k =
    let a : nat_lt 4096 (y % 16 * 256 + z + 3) ≡ false = le-ltb 4096 (y % 16 * 256 + z + 3) h in
    let b : nat_le (y % 16 * 256 + z + 3) (length (x ∷ y ∷ z ∷ bs)) ≡ true = le-leb (y % 16 * 256 + z + 3) (length (x ∷ y ∷ z ∷ bs)) k in
    simp (s, a, b)

-- a whole section is one whatever stands behind it
pub whole_stays : (bs more : List ℕ) (n : ℕ) → front_of bs ≡ Whole n → front_of (take n bs ++ more) ≡ Whole n
whole_stays [] more n h = absurd (cc)
whole_stays (x ∷ []) more n h = absurd (not_yet x n h)
whole_stays (x ∷ y ∷ []) more n h = absurd (not_yet x n h)
whole_stays (x ∷ y ∷ z ∷ bs) more zero h = absurd (let k = whole_says (x ∷ y ∷ z ∷ bs) zero h in let l = k.at_least in omega arith)
whole_stays (x ∷ y ∷ z ∷ bs) more (suc zero) h = absurd (let k = whole_says (x ∷ y ∷ z ∷ bs) (suc zero) h in let l = k.at_least in omega arith)
whole_stays (x ∷ y ∷ z ∷ bs) more (suc (suc zero)) h = absurd (let k = whole_says (x ∷ y ∷ z ∷ bs) (suc (suc zero)) h in let l = k.at_least in omega arith)
whole_stays (x ∷ y ∷ z ∷ bs) more (suc (suc (suc m))) h =
    let k = front_whole x y z (suc (suc (suc m))) bs h in
    let l : m ≤ length bs = omega arith in
    let t : length (take m bs) ≡ m = length-take-le m bs l in
    let e : length (take m bs ++ more) ≡ m + length more = length-append (take m bs) more ∙ ap (λ j. j + length more) t in
    front_from x y z (take m bs ++ more) k.0 k.2 (omega arith) ∙ ap Whole k.1

-- a front of a whole section is a part
pub part_of : (bs : List ℕ) (n k : ℕ) → front_of bs ≡ Whole n → 3 ≤ k → k < n → front_of (take k bs) ≡ Part
part_of [] n k h a b = absurd (cc)
part_of (x ∷ []) n k h a b = absurd (not_yet x n h)
part_of (x ∷ y ∷ []) n k h a b = absurd (not_yet x n h)
part_of (x ∷ y ∷ z ∷ bs) n zero h a b = absurd (omega arith)
part_of (x ∷ y ∷ z ∷ bs) n (suc zero) h a b = absurd (omega arith)
part_of (x ∷ y ∷ z ∷ bs) n (suc (suc zero)) h a b = absurd (omega arith)
part_of (x ∷ y ∷ z ∷ bs) n (suc (suc (suc m))) h a b =
    let f = front_whole x y z n bs h in
    let s = f.0 in
    let l : m ≤ length bs = omega arith in
    let t : length (take m bs) ≡ m = length-take-le m bs l in
    let c : nat_lt 4096 (y % 16 * 256 + z + 3) ≡ false = le-ltb 4096 (y % 16 * 256 + z + 3) f.2 in
    let d : nat_le (y % 16 * 256 + z + 3) (length (x ∷ y ∷ z ∷ take m bs)) ≡ false = lt-leb (y % 16 * 256 + z + 3) (length (x ∷ y ∷ z ∷ take m bs)) (omega arith) in
    simp (s, c, d)

-- ---- the sections behind a front

pub past_drops : (k : ℕ) (bs : List ℕ) → taken_past k bs ≡ taken (drop k bs)
past_drops k [] = ap taken (sym (drop-nil k))
past_drops zero (x ∷ xs) = refl
past_drops (suc k) (x ∷ xs) = past_drops k xs

abbrev pub by_front : ℕ → List ℕ → Front → Assembled
by_front x xs Nothing = nothing
by_front x xs Part = record { finished = []; part = x ∷ xs }
by_front x xs (Whole size) = with_section (take size (x ∷ xs)) (taken_past (size - 1) xs)

front_taken : (x : ℕ) (xs : List ℕ) (f : Front) → front_of (x ∷ xs) ≡ f → taken (x ∷ xs) ≡ by_front x xs f
front_taken x xs f h = ap (by_front x xs) h

pub whole_first : (bs : List ℕ) (n : ℕ) → front_of bs ≡ Whole n → taken bs ≡ with_section (take n bs) (taken (drop n bs))
whole_first [] n h = absurd (cc)
whole_first (x ∷ xs) zero h = absurd (let k = whole_says (x ∷ xs) zero h in let l = k.at_least in omega arith)
whole_first (x ∷ xs) (suc m) h =
    let e : suc m - 1 ≡ m = omega arith in
    front_taken x xs (Whole (suc m)) h ∙ ap (λ k. with_section (take (suc m) (x ∷ xs)) (taken_past k xs)) e ∙ ap (with_section (take (suc m) (x ∷ xs))) (past_drops m xs)

pub part_alone : (bs : List ℕ) → front_of bs ≡ Part → taken bs ≡ record { finished = []; part = bs }
part_alone [] h = absurd (cc)
part_alone (x ∷ xs) h = front_taken x xs Part h

pub nothing_alone : (bs : List ℕ) → front_of bs ≡ Nothing → taken bs ≡ nothing
nothing_alone [] h = refl
nothing_alone (x ∷ xs) h = front_taken x xs Nothing h

-- a whole section, and what stands behind it
pub whole_and : (bs more : List ℕ) (n : ℕ) → front_of bs ≡ Whole n → taken (take n bs ++ more) ≡ with_section (take n bs) (taken more)
whole_and bs more n h =
    let k = whole_says bs n h in
    let l : length (take n bs) ≡ n = length-take-le n bs k.there in
    let a : take n (take n bs ++ more) ≡ take n bs = take_at (take n bs) more n l in
    let b : drop n (take n bs ++ more) ≡ more = drop_at (take n bs) more n l in
    whole_first (take n bs ++ more) n (whole_stays bs more n h) ∙ ap (λ s. with_section s (taken (drop n (take n bs ++ more)))) a ∙ ap (λ r. with_section (take n bs) (taken r)) b

-- ---- bytes behind a part

abbrev pub by_front_joined : List ℕ → Front → Assembled
by_front_joined bs Nothing = nothing
by_front_joined bs Part = record { finished = []; part = bs }
by_front_joined bs (Whole size) = record { finished = take size bs ∷ []; part = [] }

pub joined_front : (part bs : List ℕ) (f : Front) → 0 < length part → front_of (part ++ bs) ≡ f → continued part bs ≡ by_front_joined (part ++ bs) f
joined_front [] bs f z h = absurd (omega arith)
joined_front (x ∷ xs) bs f z h = ap (by_front_joined ((x ∷ xs) ++ bs)) h

pub continued_whole : (part bs : List ℕ) (n : ℕ) → 0 < length part → front_of (part ++ bs) ≡ Whole n → continued part bs ≡ record { finished = take n (part ++ bs) ∷ []; part = [] }
continued_whole part bs n z h = joined_front part bs (Whole n) z h

-- what the code leaves there, where the section is whole
pub go_on_whole : (part bs : List ℕ) (n : ℕ) → 0 < length part → front_of (part ++ bs) ≡ Whole n → taken (take n (part ++ bs)) ≡ continued part bs
go_on_whole part bs n z h =
    ap taken (sym (append-nil (take n (part ++ bs)))) ∙ whole_and (part ++ bs) [] n h ∙ sym (continued_whole part bs n z h)

pub finish_whole : (part bs more : List ℕ) (n : ℕ) → 0 < length part → front_of (part ++ bs) ≡ Whole n
    → taken (take n (part ++ bs) ++ more) ≡ after (continued part bs).finished (taken more)
finish_whole part bs more n z h = whole_and (part ++ bs) more n h ∙ ap (λ t. after t.finished (taken more)) (sym (continued_whole part bs n z h))
