-- What the reads of a reader come to, one after another.
use Rattle.std.proofs.Common.{◌≡◌, ℕ, ◌+◌, ◌-◌, ◌^◌, ◌<◌, ◌≤◌, ◌*◌, List, [], ◌∷◌, ◌++◌, Bool, true, false, Option, None, Some, IfSome, arith, length, refl, sym, ap, subst, ◌∙◌, length-append}
use Rattle.std.specs.Prelude.{min, Result, Ok, Err, IfOk, IfErr}
use Rattle.std.specs.Io.KnownBytes.{Consumes, IsAtEnd, prepend_known}
use Rattle.std.proofs.KnownBytes.{Consumes-nil}
use Rattle.ts_packet.specs.Packets.{bytes_of, packet_fault}
use Rattle.ts_packet.specs.Sources.{WasGiven, GivesInto, Refuses}
use Rattle.ts_packet.specs.declared.reader.ReadFault.{ReadFault}
use Rattle.ts_packet.specs.declared.reader.ReadFault.TheVariants as read_faults
use Rattle.packet_recovery.specs.Framing.{framed, skipped}
use Rattle.packet_recovery.specs.Mending.{mend, mended, mends, is_plain}
use Rattle.packet_recovery.specs.Reading.{capped, rest_of, StartsAt, Framed, RanOut, Missed, Given, Recovers, IsOfDevice, left_to_give, skipped_by, mended_by, Stays}
use Rattle.packet_recovery.proofs.FramingLemmas.{framed-short, counted}
use Rattle.packet_recovery.proofs.MendingLemmas.{mend_sound, mend_sized, mended-nil, mended-cons, mends-nil, mends-cons, plain_sound, plain_stays, plain_counts, sound_sync}
use Rattle.packet_recovery.proofs.SightLemmas.{in_place, unfilled}

none_out : (n : ℕ) → n < 2 ^ 64 → n ≡ min (n + 0) (2 ^ 64 - 1)
none_out n h = omega (arith, h)

zero_below : length {A = ℕ} [] < 188
zero_below = omega arith

one_below : length {A = ℕ} (71 ∷ []) ≤ 188
one_below = grind arith

none_below : length {A = ℕ} [] ≤ 188
none_below = omega arith

ahead_still : (left : Option (List ℕ)) → Consumes (prepend_known (71 ∷ []) left) left (71 ∷ [])
ahead_still None = tt
ahead_still (Some xs) = refl

-- nothing is read
pub still : (ended ahead : Bool) (left : Option (List ℕ)) (n : ℕ) → ended ≡ false → n < 2 ^ 64 → Missed (rest_of ended ahead left) left n n
still true ahead left n e l = absurd (cc)
still false true left n e l = ([], 71 ∷ [], ahead_still left, one_below, none_out n l)
still false false left n e l = ([], [], Consumes-nil left, none_below, none_out n l)

pub over : (ended ahead : Bool) (left : Option (List ℕ)) (n : ℕ) → ended ≡ true → n < 2 ^ 64 → RanOut (rest_of ended ahead left) (rest_of ended ahead left) n n
over false ahead left n e l = absurd (cc)
over true ahead left n e l = record { out = []; bytes = refl; end = refl; none = framed-short [] zero_below; skips = none_out n l }

pub not_ended : (ended broken : Bool) → (ended ≡ true → broken ≡ false) → broken ≡ true → ended ≡ false
not_ended true broken h e = absurd (let f = h refl in cc)
not_ended false broken h e = refl

-- ---- a reader is a source of packets

given_so : (old new : Option (List ℕ)) (raw slot : List ℕ) (n m : ℕ) → Framed old new raw n m → slot ≡ mend raw → Consumes (left_to_give old) (left_to_give new) slot
given_so None new raw slot n m f e = tt
given_so (Some xs) None raw slot n m f e = absurd f.bytes
given_so (Some xs) (Some ys) raw slot n m f e =
    ap (λ ps. bytes_of (mended ps)) f.follows ∙ ap bytes_of (mended-cons raw (framed ys)) ∙ ap (λ p. p ++ bytes_of (mended (framed ys))) (sym e)

pub gives : (old new : Option (List ℕ)) (slot : List ℕ) (given n m a b place : ℕ) → Given old new slot given n m a b place → WasGiven (left_to_give old) (left_to_give new) slot
gives old new slot given n m a b place g = record {
  bytes = given_so old new g.raw slot n m g.found g.passed;
  size = ap length g.passed ∙ mend_sized g.raw g.found.size;
  sound = ap packet_fault g.passed ∙ mend_sound g.raw g.found.sync;
}

nothing_left : (old : Option (List ℕ)) → IfSome old (λ xs. framed xs ≡ []) → IsAtEnd (left_to_give old)
nothing_left None h = tt
nothing_left (Some xs) h = ap (λ ps. bytes_of (mended ps)) h ∙ ap bytes_of mended-nil

at_end : (new : Option (List ℕ)) → IsAtEnd new → IfSome new (λ xs. framed xs ≡ [])
at_end None h = tt
at_end (Some xs) h = ap framed h ∙ framed-short [] zero_below

pub gives_into : (r : Result Bool ReadFault) (old new : Option (List ℕ)) (slot : List ℕ) (given n m a b p q : ℕ) → IfOk r (λ more. Recovers more old new slot given n m a b p q)
    → IfOk r (λ more. GivesInto (left_to_give old) (left_to_give new) more slot)
gives_into (Ok true) old new slot given n m a b p q h = gives old new slot given n m a b q h
gives_into (Ok false) old new slot given n m a b p q h = (nothing_left old h.0.none, nothing_left new (at_end new h.0.end))
gives_into (Err f) old new slot given n m a b p q h = tt

by_fault : (broken : Bool) (left : Option (List ℕ)) (f : ReadFault) → IsOfDevice broken f → Refuses broken left f
by_fault broken left read_faults.Truncated h = absurd h
by_fault broken left read_faults.SyncLost h = absurd h
by_fault broken left read_faults.BadAdaptation h = absurd h
by_fault broken left read_faults.Io h = h
by_fault broken left read_faults.Turns h = h
by_fault broken left read_faults.Failed h = h

pub refuses : (r : Result Bool ReadFault) (broken : Bool) (left : Option (List ℕ)) → IfErr r (λ f. IsOfDevice broken f) → IfErr r (λ f. Refuses broken left f)
refuses (Ok more) broken left h = tt
refuses (Err f) broken left h = by_fault broken left f h

-- ---- what is counted up to the end

skips-more : (xs out raw ys : List ℕ) → xs ≡ (out ++ raw) ++ ys → length raw ≡ 188 → framed xs ≡ raw ∷ framed ys → skipped xs ≡ length out + skipped ys
skips-more xs out raw ys e size f =
    let l = ap length e in
    let m = length-append (out ++ raw) ys in
    let k = length-append out raw in
    let c = counted xs in
    let d = counted ys in
    let n : length (framed xs) ≡ 1 + length (framed ys) = ap length f ∙ grind arith in
    omega (arith, l, m, k, c, d, n, size)

capped_on : (n k s : ℕ) → min (min (n + k) (2 ^ 64 - 1) + s) (2 ^ 64 - 1) ≡ min (n + (k + s)) (2 ^ 64 - 1)
capped_on n k s = omega arith

pub stays_skipped : (old new : Option (List ℕ)) (raw : List ℕ) (n m : ℕ) → Framed old new raw n m → Stays (skipped_by n old) (skipped_by m new)
stays_skipped None new raw n m f = tt
stays_skipped (Some xs) None raw n m f = absurd f.bytes
stays_skipped (Some xs) (Some ys) raw n m f =
    ap Some (ap (λ k. min (k + skipped ys) (2 ^ 64 - 1)) f.skips ∙ capped_on n (length f.out) (skipped ys)
    ∙ ap (λ k. min (n + k) (2 ^ 64 - 1)) (sym (skips-more xs f.out raw ys f.bytes f.size f.follows)))

pub stays_mended : (old new : Option (List ℕ)) (raw : List ℕ) (n m a b : ℕ) → Framed old new raw n m → b ≡ capped (a + mends (raw ∷ [])) → Stays (mended_by a old) (mended_by b new)
stays_mended None new raw n m a b f e = tt
stays_mended (Some xs) None raw n m a b f e = absurd f.bytes
stays_mended (Some xs) (Some ys) raw n m a b f e =
    ap Some (ap (λ k. min (k + mends (framed ys)) (2 ^ 64 - 1)) e ∙ capped_on a (mends (raw ∷ [])) (mends (framed ys))
    ∙ ap (λ k. min (a + k) (2 ^ 64 - 1)) (sym (ap mends f.follows ∙ mends-cons raw (framed ys))))

all_out : (xs out ys : List ℕ) → xs ≡ out ++ ys → ys ≡ [] → framed xs ≡ [] → skipped xs ≡ length out
all_out xs out ys e at f =
    let l = ap length e in
    let m = length-append out ys in
    let z : length ys ≡ 0 = ap length at in
    let c = counted xs in
    let n : length (framed xs) ≡ 0 = ap length f in
    omega (arith, l, m, z, c, n)

none_left : (ys : List ℕ) → ys ≡ [] → skipped ys ≡ 0
none_left ys e = let c = counted ys in let z : length ys ≡ 0 = ap length e in omega (arith, c, z)

none_marked : (xs : List ℕ) → framed xs ≡ [] → mends (framed xs) ≡ 0
none_marked xs e = ap mends e ∙ mends-nil

pub out_skipped : (old new : Option (List ℕ)) (n m : ℕ) → RanOut old new n m → Stays (skipped_by n old) (skipped_by m new)
out_skipped None new n m r = tt
out_skipped (Some xs) None n m r = absurd r.bytes
out_skipped (Some xs) (Some ys) n m r =
    ap Some (ap (λ k. min (k + skipped ys) (2 ^ 64 - 1)) r.skips ∙ capped_on n (length r.out) (skipped ys)
    ∙ (let a = all_out xs r.out ys r.bytes r.end r.none in let z = none_left ys r.end in omega (arith, a, z)))

pub out_mended : (old new : Option (List ℕ)) (n m a b : ℕ) → RanOut old new n m → b ≡ a → Stays (mended_by a old) (mended_by b new)
out_mended None new n m a b r e = tt
out_mended (Some xs) None n m a b r e = absurd r.bytes
out_mended (Some xs) (Some ys) n m a b r e =
    let z = none_marked xs r.none in
    let w = none_marked ys (ap framed r.end ∙ framed-short [] zero_below) in
    ap Some (omega (arith, z, w, e))

pub leads_by : (r : Result Bool ReadFault) (old new : Option (List ℕ)) (slot : List ℕ) (given n m a b p q : ℕ) (was is : Bool) (P : Bool → Type 0) → IfOk r (λ more. Recovers more old new slot given n m a b p q)
    → IfOk r (λ more. (was ≡ false) × (is ≡ false) × P more) → IfErr r (λ f. is ≡ true) → is ≡ false
    → (was ≡ false) × Stays (skipped_by n old) (skipped_by m new) × Stays (mended_by a old) (mended_by b new)
leads_by (Ok true) old new slot given n m a b p q was is P h k l e = (k.0, stays_skipped old new h.raw n m h.found, stays_mended old new h.raw n m a b h.found h.marks)
leads_by (Ok false) old new slot given n m a b p q was is P h k l e = (k.0, out_skipped old new n m h.0, out_mended old new n m a b h.0 h.1)
leads_by (Err f) old new slot given n m a b p q was is P h k l e = absurd (cc)

pub spent_by : (r : Result Bool ReadFault) (old new : Option (List ℕ)) (slot : List ℕ) (given n m a b p q : ℕ) → IfOk r (λ more. Recovers more old new slot given n m a b p q) → r ≡ Ok false → IsAtEnd new
spent_by (Ok true) old new slot given n m a b p q h e = absurd (cc)
spent_by (Ok false) old new slot given n m a b p q h e = h.0.end
spent_by (Err f) old new slot given n m a b p q h e = absurd (cc)

pub short_by : (r : Result Bool ReadFault) (P : Type 0) → IfErr r (λ f. P) → r ≡ Err read_faults.Turns → P
short_by (Ok more) P h e = absurd (cc)
short_by (Err f) P h e = h

-- ---- one call

-- none of it was read
pub unbroken : (b x : Bool) (P Q R : Type 0) → (b ≡ true → (x ≡ false) × P × Q × R) → x ≡ true → b ≡ true → ⊥
unbroken b x P Q R h e t = let f = (h t).0 in cc

pub unended : (b x : Bool) (P Q R : Type 0) → (b ≡ true → P × (x ≡ false) × Q × R) → x ≡ true → b ≡ true → ⊥
unended b x P Q R h e t = let f = (h t).1 in cc

pub unfull : (b : Bool) (n : ℕ) (P Q R : Type 0) → (b ≡ true → P × Q × R × (n < 2 ^ 64 - 1)) → n ≡ 2 ^ 64 - 1 → b ≡ true → ⊥
unfull b n P Q R h e t = let l = (h t).3 in grind (arith, l, e)

pub still_at : (b ended ahead : Bool) (start left : Option (List ℕ)) (p : List ℕ) (n : ℕ) → (b ≡ true → ⊥) → StartsAt b start (rest_of ended ahead left) p → ended ≡ false → n < 2 ^ 64
    → Missed start left n n
still_at b ended ahead start left p n never h e l =
    subst (λ s. Missed s left n n) (sym (unfilled b start (rest_of ended ahead left) p never h)) (still ended ahead left n e l)

pub over_at : (b ended ahead : Bool) (start left : Option (List ℕ)) (p : List ℕ) (n : ℕ) → (b ≡ true → ⊥) → StartsAt b start (rest_of ended ahead left) p → ended ≡ true → n < 2 ^ 64
    → RanOut start (rest_of ended ahead left) n n
over_at b ended ahead start left p n never h e l =
    subst (λ s. RanOut s (rest_of ended ahead left) n n) (sym (unfilled b start (rest_of ended ahead left) p never h)) (over ended ahead left n e l)

-- a plain packet that lay ready in its place
pub given_plain : (ended ahead : Bool) (old new : Option (List ℕ)) (p : List ℕ) (given n m place : ℕ) → ended ≡ false → ahead ≡ false → Consumes old new p → length p ≡ 188
    → is_plain p ≡ true → n < 2 ^ 64 → m < 2 ^ 64 → place ≡ capped (n + 188 * given) → Given (rest_of ended ahead old) (rest_of ended ahead new) p given n n m m place
given_plain true ahead old new p given n m place e a h s f k l q = absurd (cc)
given_plain false true old new p given n m place e a h s f k l q = absurd (cc)
given_plain false false old new p given n m place e a h s f k l q = record {
  raw = p;
  found = in_place old new p n h s (sound_sync p (plain_sound p f)) k;
  passed = plain_stays p f;
  marks = plain_counts p m f l;
  place_is = q;
}
