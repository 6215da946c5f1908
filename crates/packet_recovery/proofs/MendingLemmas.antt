-- What packets are passed on for those that were framed, and that a stream without a fault is passed on as it is.
use Rattle.std.proofs.Common.{◌≡◌, ℕ, zero, suc, ◌+◌, ◌*◌, ◌-◌, ◌/◌, ◌%◌, ◌<◌, ◌≤◌, ◌^◌, ◌==◌, List, [], ◌∷◌, Bool, true, false, not, ◌&&◌, ◌||◌, nat_le, if◌then◌else◌, Option, None, Some, All, arith, length, take, drop, map, slice_index, refl, sym, ap, ◌∙◌, subst, length-take-le, length-drop, take-append-drop}
use Rattle.std.specs.Prelude.{filter}
use Rattle.std.proofs.lemmas.Bool.Decides.{nat_tests}
use Rattle.std.proofs.lemmas.List.{append-nil}
use Rattle.std.proofs.lemmas.List.Elements.{All-nil, All-cons, All-head, All-tail}
use Rattle.ts_packet.proofs.Cases.{by_test}
use Rattle.ts_packet.proofs.PacketsLemmas.{packets_of-cons, packets_of-short, packets_of-whole, last_part-whole}
use Rattle.ts_packet.specs.Fields.{marked, in_error}
use Rattle.ts_packet.specs.Packets.{parts, packets_of, last_part, bytes_of, packet_fault}
use Rattle.ts_packet.specs.declared.packet.PacketFault.{PacketFault}
use Rattle.ts_packet.specs.declared.packet.PacketFault.TheVariants.{SyncLost, BadAdaptation}
use Rattle.packet_recovery.specs.Framing.{begins_with_sync, framed, skipped}
use Rattle.packet_recovery.specs.Mending.{mend, mend_by, mended, mends, is_mended, is_plain, of_adaptation}
use Rattle.packet_recovery.specs.Reading.{capped}
use Rattle.packet_recovery.proofs.FramingLemmas.{framed-short, framed-next, framed-sized, framed-synced}

-- ---- one packet

pub length-marked : (p : List ℕ) → length p ≡ 188 → length (marked p) ≡ 188
unfolding marked
length-marked [] h = absurd (grind (arith, h))
length-marked (a ∷ []) h = absurd (grind (arith, h))
length-marked (a ∷ b ∷ r) h = h

marked_error : (p : List ℕ) → in_error (marked p) ≡ true
unfolding marked in_error
marked_error p = let one : (slice_index p 1 % 128 + 128) / 128 % 2 ≡ 1 = omega arith in rw one refl

marked_sync : (p : List ℕ) → begins_with_sync (marked p) ≡ begins_with_sync p
unfolding marked
marked_sync p = refl

sound_error : (p : List ℕ) → begins_with_sync p ≡ true → in_error p ≡ true → packet_fault p ≡ None
unfolding packet_fault
sound_error p h k = rw (h, k) refl

not_lost : (p : List ℕ) → begins_with_sync p ≡ false → packet_fault p ≡ Some SyncLost
unfolding packet_fault
not_lost p h = rw h refl

pub sound_sync : (p : List ℕ) → packet_fault p ≡ None → begins_with_sync p ≡ true
sound_sync p h = by_test (begins_with_sync p) (λ y. y) (λ n. absurd (let e = not_lost p n in cc))

synced : (s a b : Bool) → s ≡ true → ◌≡◌ {A = Option PacketFault} (if not s then Some SyncLost else (if a then None else (if b then Some BadAdaptation else None))) (Some SyncLost) → ⊥
synced false a b h k = absurd (cc)
synced true true b h k = absurd (cc)
synced true false true h k = absurd (cc)
synced true false false h k = absurd (cc)

lost_sync : (p : List ℕ) → begins_with_sync p ≡ true → packet_fault p ≡ Some SyncLost → ⊥
unfolding packet_fault
lost_sync p h e = synced (begins_with_sync p) _ _ h e

mended_by : (o : Option PacketFault) (p : List ℕ) → packet_fault p ≡ o → begins_with_sync p ≡ true → packet_fault (mend_by o p) ≡ None
mended_by None p e h = e
mended_by (Some SyncLost) p e h = absurd (lost_sync p h e)
mended_by (Some BadAdaptation) p e h = sound_error (marked p) (marked_sync p ∙ h) (marked_error p)

sized_by : (o : Option PacketFault) (p : List ℕ) → length p ≡ 188 → length (mend_by o p) ≡ 188
sized_by None p h = h
sized_by (Some SyncLost) p h = h
sized_by (Some BadAdaptation) p h = length-marked p h

-- what is passed on is a packet
pub mend_sound : (p : List ℕ) → begins_with_sync p ≡ true → packet_fault (mend p) ≡ None
mend_sound p h = mended_by (packet_fault p) p refl h

pub mend_sized : (p : List ℕ) → length p ≡ 188 → length (mend p) ≡ 188
mend_sized p h = sized_by (packet_fault p) p h

-- and a packet without a fault stays as it is
pub mend_none : (p : List ℕ) → packet_fault p ≡ None → mend p ≡ p
mend_none p h = ap (λ o. mend_by o p) h

-- ---- all of them

pub all_sound : (ps : List (List ℕ)) → All (λ p. begins_with_sync p ≡ true) ps → All (λ p. packet_fault p ≡ None) (mended ps)
unfolding mended
all_sound [] h = All-nil (λ p. packet_fault p ≡ None)
all_sound (p ∷ ps) h =
    All-cons (λ q. packet_fault q ≡ None) (mend p) (map mend ps) (mend_sound p (All-head (λ q. begins_with_sync q ≡ true) p ps h)) (all_sound ps (All-tail (λ q. begins_with_sync q ≡ true) p ps h))

pub all_sized : (ps : List (List ℕ)) → All (λ p. length p ≡ 188) ps → All (λ p. length p ≡ 188) (mended ps)
unfolding mended
all_sized [] h = All-nil (λ p. length p ≡ 188)
all_sized (p ∷ ps) h =
    All-cons (λ q. length q ≡ 188) (mend p) (map mend ps) (mend_sized p (All-head (λ q. length q ≡ 188) p ps h)) (all_sized ps (All-tail (λ q. length q ≡ 188) p ps h))

zero_below : length {A = ℕ} [] < 188
zero_below = omega arith

pub sound : (bs : List ℕ) → All (λ p. length p ≡ 188) (mended (framed bs)) × All (λ p. packet_fault p ≡ None) (mended (framed bs))
    × (packets_of (bytes_of (mended (framed bs))) ≡ mended (framed bs)) × (last_part (bytes_of (mended (framed bs))) ≡ [])
sound bs =
    let sizes = all_sized (framed bs) (framed-sized bs) in
    let whole = append-nil (bytes_of (mended (framed bs))) in (
      sizes,
      all_sound (framed bs) (framed-synced bs),
      ap packets_of (sym whole) ∙ packets_of-whole (mended (framed bs)) [] sizes zero_below,
      ap last_part (sym whole) ∙ last_part-whole (mended (framed bs)) [] sizes zero_below,
    )

-- ---- a stream without a fault

stay : (ps : List (List ℕ)) → All (λ p. packet_fault p ≡ None) ps → mended ps ≡ ps
unfolding mended
stay [] h = refl
stay (p ∷ ps) h = ap (λ q. q ∷ map mend ps) (mend_none p (All-head (λ q. packet_fault q ≡ None) p ps h)) ∙ ap (λ l. p ∷ l) (stay ps (All-tail (λ q. packet_fault q ≡ None) p ps h))

none_is : (p : List ℕ) → packet_fault p ≡ None → is_mended p ≡ false
none_is p h = ap of_adaptation h

none_mended : (ps : List (List ℕ)) → All (λ p. packet_fault p ≡ None) ps → mends ps ≡ 0
unfolding mends
none_mended [] h = refl
none_mended (p ∷ ps) h = let e = none_is p (All-head (λ q. packet_fault q ≡ None) p ps h) in rw e (none_mended ps (All-tail (λ q. packet_fault q ≡ None) p ps h))

length-parts : (n : ℕ) (bs : List ℕ) → length (parts n bs) ≡ n
length-parts zero bs = refl
length-parts (suc n) bs = ap suc (length-parts n (drop 188 bs))

first_of : (bs : List ℕ) → 188 ≤ length bs → packets_of bs ≡ take 188 bs ∷ packets_of (drop 188 bs)
first_of bs h = ap packets_of (sym (take-append-drop 188 bs)) ∙ packets_of-cons (take 188 bs) (drop 188 bs) (length-take-le 188 bs h)

frames : (n : ℕ) (bs : List ℕ) → length bs / 188 ≡ n → All (λ p. packet_fault p ≡ None) (packets_of bs) → framed bs ≡ packets_of bs
frames zero bs e h = let short : length bs < 188 = omega (arith, e) in framed-short bs short ∙ sym (packets_of-short bs short)
frames (suc n) bs e h =
    let long : 188 ≤ length bs = omega (arith, e) in
    let one = first_of bs long in
    let each : All (λ p. packet_fault p ≡ None) (take 188 bs ∷ packets_of (drop 188 bs)) = subst (All (λ p. packet_fault p ≡ None)) one h in
    let size = length-take-le 188 bs long in
    let l = length-drop 188 bs in
    let fewer : length (drop 188 bs) / 188 ≡ n = omega (arith, e, l, long) in
    ap framed (sym (take-append-drop 188 bs))
    ∙ framed-next (take 188 bs) (drop 188 bs) size (sound_sync (take 188 bs) (All-head (λ p. packet_fault p ≡ None) (take 188 bs) (packets_of (drop 188 bs)) each))
    ∙ ap (λ l. take 188 bs ∷ l) (frames n (drop 188 bs) fewer (All-tail (λ p. packet_fault p ≡ None) (take 188 bs) (packets_of (drop 188 bs)) each))
    ∙ sym one

pub stays : (bs : List ℕ) → All (λ p. packet_fault p ≡ None) (packets_of bs)
    → (mended (framed bs) ≡ packets_of bs) × (mends (framed bs) ≡ 0) × (skipped bs ≡ length (last_part bs))
unfolding skipped
stays bs h =
    let whole = frames (length bs / 188) bs refl h in
    let count = length-parts (length bs / 188) bs in
    let rest = length-drop (length bs / 188 * 188) bs in (
      ap mended whole ∙ stay (packets_of bs) h,
      ap mends whole ∙ none_mended (packets_of bs) h,
      ap (λ ps. length bs - 188 * length ps) whole ∙ omega (arith, count, rest),
    )

-- ---- one packet more

pub mended-nil : mended [] ≡ []
unfolding mended
mended-nil = refl

pub mends-nil : mends [] ≡ 0
unfolding mends
mends-nil = refl

pub mended-cons : (p : List ℕ) (ps : List (List ℕ)) → mended (p ∷ ps) ≡ mend p ∷ mended ps
unfolding mended
mended-cons p ps = refl

count_if : (b : Bool) (p : List ℕ) (ps : List (List ℕ)) → length (if b then p ∷ ps else ps) ≡ length (if b then p ∷ [] else []) + length ps
count_if true p ps = grind arith
count_if false p ps = grind arith

pub mends-cons : (p : List ℕ) (ps : List (List ℕ)) → mends (p ∷ ps) ≡ mends (p ∷ []) + mends ps
unfolding mends
mends-cons p ps = count_if (is_mended p) p (filter is_mended ps)

pub mends-bad : (p : List ℕ) → packet_fault p ≡ Some BadAdaptation → mends (p ∷ []) ≡ 1
unfolding mends
mends-bad p h = let e : is_mended p ≡ true = ap of_adaptation h in rw e refl

pub mends-lost : (p : List ℕ) → packet_fault p ≡ Some SyncLost → mends (p ∷ []) ≡ 0
unfolding mends
mends-lost p h = let e : is_mended p ≡ false = ap of_adaptation h in rw e refl

pub mends-none : (p : List ℕ) → packet_fault p ≡ None → mends (p ∷ []) ≡ 0
unfolding mends
mends-none p h = let e : is_mended p ≡ false = ap of_adaptation h in rw e refl

-- ---- packets of which it is seen at once

sound_if : (s e x : Bool) → s ≡ true → x ≡ false → (if not s then Some SyncLost else (if e then None else (if x then Some BadAdaptation else None))) ≡ None
sound_if true true x h k = refl
sound_if true false true h k = absurd (cc)
sound_if true false false h k = refl
sound_if false e x h k = absurd (cc)

neither : (a b c d : Bool) → a ≡ false → c ≡ false → ((a && b) || (c && d)) ≡ false
neither a b c d h k = rw (h, k) refl

none_long : (a c : Bool) → ((a && not true) || (c && not true)) ≡ false
none_long true true = refl
none_long true false = refl
none_long false true = refl
none_long false false = refl

fits : (a b c d : Bool) → b ≡ true → d ≡ true → ((a && not b) || (c && not d)) ≡ false
fits a b c d h k = rw (h, k) (none_long a c)

no_two : (n : ℕ) → (n / 32 % 2 == 0) ≡ true → (n / 16 % 4 == 2) ≡ false
no_two n h = grind (arith, nat_tests, h)

no_three : (n : ℕ) → (n / 32 % 2 == 0) ≡ true → (n / 16 % 4 == 3) ≡ false
no_three n h = grind (arith, nat_tests, h)

fits_too : (n : ℕ) → nat_le n 182 ≡ true → nat_le n 183 ≡ true
fits_too n h = grind (arith, nat_tests, h)

plain_fits : (p : List ℕ) (f l : Bool) → (slice_index p 3 / 32 % 2 == 0) ≡ f → nat_le (slice_index p 4) 182 ≡ l → (f || l) ≡ true
    → (((slice_index p 3 / 16 % 4 == 2) && not (nat_le (slice_index p 4) 183)) || ((slice_index p 3 / 16 % 4 == 3) && not (nat_le (slice_index p 4) 182))) ≡ false
plain_fits p true l h k e = neither _ _ _ _ (no_two (slice_index p 3) h) (no_three (slice_index p 3) h)
plain_fits p false true h k e = fits _ _ _ _ (fits_too (slice_index p 4) k) k
plain_fits p false false h k e = absurd (cc)

front_true : (a b : Bool) → (a && b) ≡ true → (a ≡ true) × (b ≡ true)
front_true true true h = (refl, refl)
front_true true false h = absurd (cc)
front_true false b h = absurd (cc)

pub plain_sound : (p : List ℕ) → is_plain p ≡ true → packet_fault p ≡ None
unfolding packet_fault
plain_sound p h =
    let both = front_true (slice_index p 0 == 71) _ h in
    sound_if (slice_index p 0 == 71) _ _ both.0 (plain_fits p _ _ refl refl both.1)

-- such a packet is passed on as it is
pub plain_stays : (p : List ℕ) → is_plain p ≡ true → p ≡ mend p
plain_stays p h = sym (mend_none p (plain_sound p h))

-- and is not counted
pub plain_counts : (p : List ℕ) (n : ℕ) → is_plain p ≡ true → n < 2 ^ 64 → n ≡ capped (n + mends (p ∷ []))
plain_counts p n h l = let none = mends-none p (plain_sound p h) in omega (arith, none, l)
