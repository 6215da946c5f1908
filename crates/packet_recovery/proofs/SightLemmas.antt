-- What a look for the next packet finds, by the bytes that are left.
use Rattle.std.proofs.Common.{◌≡◌, ℕ, ◌+◌, ◌-◌, ◌^◌, ◌<◌, ◌≤◌, ◌==◌, List, [], ◌∷◌, ◌++◌, Bool, true, false, ◌&&◌, ◌||◌, nat_le, Option, None, Some, IfSome, arith, length, take, drop, get_or, slice_set, refl, sym, ap, ◌∙◌, subst, drop_at, append_assoc, length-append, length-take-le}
use Rattle.std.specs.Prelude.{min, Result, Ok, Err, OnErr}
use Rattle.std.specs.Io.KnownBytes.{Consumes, IsAtEnd, prepend_known}
use Rattle.std.proofs.lemmas.Bool.Decides.{nat_tests}
use Rattle.std.proofs.lemmas.List.{append-nil}
use borrow.Rule.Slice.PartMut.{put_mid}
use lib.Seq.{take_all}
use Rattle.ts_packet.proofs.TransferLemmas.{take-filled}
use Rattle.ts_packet.specs.Transfers.{Filled, FallsShort}
use Rattle.ts_packet.specs.declared.transfer.FillFault.{FillFault}
use Rattle.packet_recovery.specs.Framing.{begins_with_sync, resumes, resumed, framed}
use Rattle.packet_recovery.specs.declared.search.Regained.{Regained}
use Rattle.packet_recovery.specs.declared.search.Regained.TheVariants.{Followed, Last, Nowhere}
use Rattle.packet_recovery.specs.Reading.{rest_of, StartsAt, Searched, Missed, Framed, RanOut, Sighted, WasFilled}
use Rattle.packet_recovery.proofs.FramingLemmas.{resumed-here, framed-short, framed-next, framed-lost}

-- ---- the bytes of a packet

ahead : (left now : Option (List ℕ)) (bs : List ℕ) → Consumes left now bs → Consumes (prepend_known (71 ∷ []) left) now (71 ∷ bs)
ahead None now bs h = tt
ahead (Some xs) None bs h = h
ahead (Some xs) (Some ys) bs h = ap (λ l. 71 ∷ l) h

first_set : (w : List ℕ) → length w ≡ 188 → take 1 (slice_set w 0 71) ≡ 71 ∷ []
first_set [] h = absurd (grind (arith, h))
first_set (x ∷ w) h = refl

length-set : (w : List ℕ) → length w ≡ 188 → 1 ≤ length (slice_set w 0 71)
length-set [] h = absurd (grind (arith, h))
length-set (x ∷ w) h = grind arith

filled_ahead : (left now : Option (List ℕ)) (w buf : List ℕ) (n : ℕ) → length w ≡ 188 → length buf ≡ 187 → Filled left now buf n
    → WasFilled (prepend_known (71 ∷ []) left) now (put_mid 1 187 (slice_set w 0 71) buf) (1 + n)
filled_ahead left now w buf n size room h =
    let fits = h.fits in
    let front : take (1 + n) (put_mid 1 187 (slice_set w 0 71) buf) ≡ 71 ∷ take n buf =
    take-filled 1 187 n (slice_set w 0 71) buf (length-set w size) fits ∙ ap (λ l. l ++ take n buf) (first_set w size) in
    record {
      fits = omega (arith, fits, room);
      bytes_are = subst (Consumes (prepend_known (71 ∷ []) left) now) (sym front) (ahead left now (take n buf) h.bytes);
      end = λ l. h.end (omega (arith, l, room));
    }

pub was_filled : (b : Bool) (left now : Option (List ℕ)) (w buf : List ℕ) (n : ℕ) → b ≡ true → length w ≡ 188 → length buf ≡ 187 → Filled left now buf n
    → WasFilled (rest_of false b left) now (put_mid 1 187 (slice_set w 0 71) buf) (1 + n)
was_filled true left now w buf n e size room h = filled_ahead left now w buf n size room h
was_filled false left now w buf n e size room h = absurd (cc)

none_out : (n : ℕ) → n < 2 ^ 64 → n ≡ min (n + 0) (2 ^ 64 - 1)
none_out n h = omega (arith, h)

pub missed_ahead : (b : Bool) (left now : Option (List ℕ)) (room before : ℕ) → b ≡ true → room ≤ 187 → FallsShort room left now → before < 2 ^ 64 → Missed (rest_of false b left) now before before
missed_ahead true left now room before e l h low = ([], 71 ∷ h.0, ahead left now h.0 h.1, (let f = h.2 in grind (arith, f, l)), none_out before low)
missed_ahead false left now room before e l h low = absurd (cc)

short_of : (b : Bool) (left now : Option (List ℕ)) (room before : ℕ) → b ≡ false → room ≤ 188 → FallsShort room left now → before < 2 ^ 64 → Missed (rest_of false b left) now before before
short_of false left now room before e l h low = ([], h.0, h.1, (let f = h.2 in omega (arith, f, l)), none_out before low)
short_of true left now room before e l h low = absurd (cc)

pub missed_plain : (r : Result ℕ FillFault) (b : Bool) (left now : Option (List ℕ)) (room before : ℕ) → b ≡ false → room ≤ 188 → OnErr r (FallsShort room left now) → before < 2 ^ 64
    → OnErr r (Missed (rest_of false b left) now before before)
missed_plain (Ok n) b left now room before e l h low = tt
missed_plain (Err f) b left now room before e l h low = short_of b left now room before e l h low

-- ---- behind bytes that were read

pub through : (old left now : Option (List ℕ)) (w bs : List ℕ) → Consumes old left w → Consumes (prepend_known w left) now bs → Consumes old now bs
through None left now w bs h k = tt
through (Some xs) None now w bs h k = absurd h
through (Some xs) (Some ys) None w bs h k = k
through (Some xs) (Some ys) (Some zs) w bs h k = h ∙ k

front_of : (xs w ys : List ℕ) → xs ≡ w ++ ys → length w ≡ 188 → begins_with_sync w ≡ false → (188 ≤ length xs) × (begins_with_sync xs ≡ false)
front_of xs [] ys e size h = absurd (grind (arith, size))
front_of xs (b ∷ w) ys e size h = let l = ap length e in let m = length-append (b ∷ w) ys in (omega (arith, l, m, size), ap begins_with_sync e ∙ h)

lost : (xs w ys : List ℕ) → xs ≡ w ++ ys → length w ≡ 188 → begins_with_sync w ≡ false → framed xs ≡ framed (resumed (drop 1 xs))
lost xs w ys e size h = let f = front_of xs w ys e size h in framed-lost xs f.0 f.1

all_three : (s l e t : Bool) → s ≡ true → l ≡ true → t ≡ true → (s && (l && (e || t))) ≡ true
all_three s l true t h k g = rw (h, k) refl
all_three s l false t h k g = rw (h, k, g) refl

sync-front : (p rest : List ℕ) → length p ≡ 188 → begins_with_sync (p ++ rest) ≡ begins_with_sync p
sync-front [] rest h = absurd (grind (arith, h))
sync-front (b ∷ p) rest h = refl

long_enough : (n : ℕ) → 188 ≤ n → nat_le 188 n ≡ true
long_enough n h = grind (arith, nat_tests, h)

resumes_there : (p ys : List ℕ) → length p ≡ 188 → begins_with_sync p ≡ true → resumes (p ++ 71 ∷ ys) ≡ true
unfolding resumes
resumes_there p ys size h =
    let l = length-append p (71 ∷ ys) in
    all_three (begins_with_sync (p ++ 71 ∷ ys)) (nat_le 188 (length (p ++ 71 ∷ ys))) (length (p ++ 71 ∷ ys) == 188) (begins_with_sync (drop 188 (p ++ 71 ∷ ys)))
    (sync-front p (71 ∷ ys) size ∙ h) (long_enough (length (p ++ 71 ∷ ys)) (omega (arith, l, size))) (ap begins_with_sync (drop_at p (71 ∷ ys) 188 size))

either : (s l e t : Bool) → s ≡ true → l ≡ true → e ≡ true → (s && (l && (e || t))) ≡ true
either s l e t h k g = rw (h, k, g) refl

is_length : (n : ℕ) → n ≡ 188 → (n == 188) ≡ true
is_length n h = grind (arith, nat_tests, h)

resumes_at_end : (p : List ℕ) → length p ≡ 188 → begins_with_sync p ≡ true → resumes p ≡ true
unfolding resumes
resumes_at_end p size h =
    either (begins_with_sync p) (nat_le 188 (length p)) (length p == 188) (begins_with_sync (drop 188 p)) h (long_enough (length p) (omega (arith, size))) (is_length (length p) size)

zero_below : length {A = ℕ} [] < 188
zero_below = omega arith

found_there : (xs out p ys : List ℕ) → xs ≡ (out ++ (p ++ 71 ∷ [])) ++ ys → framed xs ≡ framed (resumed (drop 1 xs))
    → resumed (drop 1 ((out ++ (p ++ 71 ∷ [])) ++ ys)) ≡ resumed ((p ++ 71 ∷ []) ++ ys) → length p ≡ 188 → begins_with_sync p ≡ true → framed xs ≡ p ∷ framed (71 ∷ ys)
found_there xs out p ys e lost_so goes size h =
    lost_so ∙ ap (λ l. framed (resumed (drop 1 l))) e ∙ ap framed (goes ∙ ap resumed (append_assoc p (71 ∷ []) ys) ∙ resumed-here (p ++ 71 ∷ ys) (resumes_there p ys size h))
    ∙ framed-next p (71 ∷ ys) size h

found_at_end : (xs out p ys : List ℕ) → xs ≡ (out ++ p) ++ ys → ys ≡ [] → framed xs ≡ framed (resumed (drop 1 xs)) → resumed (drop 1 ((out ++ p) ++ [])) ≡ resumed (p ++ [])
    → length p ≡ 188 → begins_with_sync p ≡ true → framed xs ≡ p ∷ []
found_at_end xs out p ys e at lost_so goes size h =
    lost_so ∙ ap (λ l. framed (resumed (drop 1 l))) (e ∙ ap (λ y. (out ++ p) ++ y) at) ∙ ap framed (goes ∙ ap resumed (append-nil p) ∙ resumed-here p (resumes_at_end p size h))
    ∙ ap framed (sym (append-nil p)) ∙ framed-next p [] size h ∙ ap (λ l. p ∷ l) (framed-short [] zero_below)

-- what a search found is the next packet
module _ (old left now : Option (List ℕ)) (w p : List ℕ) (before after : ℕ) (size : length w ≡ 188) (no : begins_with_sync w ≡ false) (read : Consumes old left w) where
  bytes_ahead : (old now : Option (List ℕ)) (out : List ℕ) → Consumes old now (out ++ (p ++ 71 ∷ [])) → Consumes old (prepend_known (71 ∷ []) now) (out ++ p)
  bytes_ahead None now out h = tt
  bytes_ahead (Some xs) None out h = h
  bytes_ahead (Some xs) (Some ys) out h = h ∙ ap (λ l. l ++ ys) (sym (append_assoc out p (71 ∷ []))) ∙ append_assoc (out ++ p) (71 ∷ []) ys

  bytes_at_end : (old now : Option (List ℕ)) (out : List ℕ) → Consumes old now out → IsAtEnd now → Consumes old (Some []) out
  bytes_at_end None now out h e = tt
  bytes_at_end (Some xs) None out h e = absurd h
  bytes_at_end (Some xs) (Some ys) out h e = h ∙ ap (λ y. out ++ y) e

  follows_ahead : (old left now : Option (List ℕ)) (out : List ℕ) → Consumes old left w → Consumes old now (out ++ (p ++ 71 ∷ []))
      → ((bh : List ℕ) → resumed (drop 1 ((out ++ (p ++ 71 ∷ [])) ++ bh)) ≡ resumed ((p ++ 71 ∷ []) ++ bh)) → length p ≡ 188 → begins_with_sync p ≡ true
      → IfSome old (λ xs. IfSome (prepend_known (71 ∷ []) now) (λ ys. framed xs ≡ p ∷ framed ys))
  follows_ahead None left now out r b goes s h = tt
  follows_ahead (Some xs) None now out r b goes s h = absurd r
  follows_ahead (Some xs) (Some ys) None out r b goes s h = tt
  follows_ahead (Some xs) (Some ys) (Some zs) out r b goes s h = found_there xs out p zs b (lost xs w ys r size no) (goes zs) s h

  follows_at_end : (old left now : Option (List ℕ)) (out : List ℕ) → Consumes old left w → Consumes old now (out ++ p) → IsAtEnd now
      → ((bh : List ℕ) → resumed (drop 1 ((out ++ p) ++ bh)) ≡ resumed (p ++ bh)) → length p ≡ 188 → begins_with_sync p ≡ true
      → IfSome old (λ xs. framed xs ≡ p ∷ framed [])
  follows_at_end None left now out r b e goes s h = tt
  follows_at_end (Some xs) None now out r b e goes s h = absurd r
  follows_at_end (Some xs) (Some ys) None out r b e goes s h = absurd b
  follows_at_end (Some xs) (Some ys) (Some zs) out r b e goes s h =
      found_at_end xs out p zs b e (lost xs w ys r size no) (goes []) s h ∙ ap (λ l. p ∷ l) (sym (framed-short [] zero_below))

  none_there : (old left now : Option (List ℕ)) (out : List ℕ) → Consumes old left w → Consumes old now out → IsAtEnd now → framed (resumed (drop 1 out)) ≡ [] → IfSome old (λ xs. framed xs ≡ [])
  none_there None left now out r b e f = tt
  none_there (Some xs) None now out r b e f = absurd r
  none_there (Some xs) (Some ys) None out r b e f = absurd b
  none_there (Some xs) (Some ys) (Some zs) out r b e f = lost xs w ys r size no ∙ ap (λ l. framed (resumed (drop 1 l))) (b ∙ ap (λ z. out ++ z) e ∙ append-nil out) ∙ f

  pub sighted : (r : Regained) → Searched r (prepend_known w left) now p before after → Sighted (Some r) old now p before after
  sighted Followed h =
      let s = h.1 in
      let b = through old left now w (h.0 ++ (p ++ 71 ∷ [])) read s.bytes in
      record { out = h.0; bytes = bytes_ahead old now h.0 b; size = h.2; sync = h.3; follows = follows_ahead old left now h.0 read b s.goes_on h.2 h.3; skips = s.count }
  sighted Last h =
      let s = h.1 in
      let b = through old left now w (h.0 ++ p) read s.bytes in
      record { out = h.0; bytes = bytes_at_end old now (h.0 ++ p) b h.4; size = h.2; sync = h.3; follows = follows_at_end old left now h.0 read b h.4 s.goes_on h.2 h.3; skips = s.count }
  sighted Nowhere h =
      let b = through old left now w h.0 read h.1 in
      record { out = h.0; bytes = bytes_at_end old now h.0 b h.2; end = refl; none = none_there old left now h.0 read b h.2 h.3; skips = h.4 }

-- a packet in its place
follows_on : (old now : Option (List ℕ)) (p : List ℕ) → Consumes old now p → length p ≡ 188 → begins_with_sync p ≡ true → IfSome old (λ xs. IfSome now (λ ys. framed xs ≡ p ∷ framed ys))
follows_on None now p h s k = tt
follows_on (Some xs) None p h s k = tt
follows_on (Some xs) (Some ys) p h s k = ap framed h ∙ framed-next p ys s k

pub in_place : (old now : Option (List ℕ)) (p : List ℕ) (before : ℕ) → Consumes old now p → length p ≡ 188 → begins_with_sync p ≡ true → before < 2 ^ 64 → Framed old now p before before
in_place old now p before h s k low = record { out = []; bytes = h; size = s; sync = k; follows = follows_on old now p h s k; skips = none_out before low }

-- a part of a packet at the end
part_none : (old now : Option (List ℕ)) (bs : List ℕ) → Consumes old now bs → IsAtEnd now → length bs < 188 → IfSome old (λ xs. framed xs ≡ [])
part_none None now bs h e l = tt
part_none (Some xs) None bs h e l = absurd h
part_none (Some xs) (Some ys) bs h e l = ap framed (h ∙ ap (λ y. bs ++ y) e ∙ append-nil bs) ∙ framed-short bs l

part_ends : (old now : Option (List ℕ)) (bs : List ℕ) → Consumes old now bs → IsAtEnd now → Consumes old (Some []) bs
part_ends None now bs h e = tt
part_ends (Some xs) None bs h e = absurd h
part_ends (Some xs) (Some ys) bs h e = h ∙ ap (λ y. bs ++ y) e

pub part_left : (old now : Option (List ℕ)) (bytes : List ℕ) (n before after : ℕ) → WasFilled old now bytes n → length bytes ≡ 188 → n < 188 → after ≡ min (before + n) (2 ^ 64 - 1)
    → RanOut old (Some []) before after
part_left old now bytes n before after h size l c =
    let s : length (take n bytes) ≡ n = length-take-le n bytes (omega (arith, size, l)) in
    record {
      out = take n bytes;
      bytes = part_ends old now (take n bytes) h.bytes_are (h.end l);
      end = refl;
      none = part_none old now (take n bytes) h.bytes_are (h.end l) (omega (arith, s, l));
      skips = c ∙ ap (λ m. min (before + m) (2 ^ 64 - 1)) (sym s);
    }

pub whole : (old now : Option (List ℕ)) (bytes : List ℕ) (n : ℕ) → WasFilled old now bytes n → length bytes ≡ 188 → n ≡ 188 → Consumes old now bytes
whole old now bytes n h size e = subst (Consumes old now) (take_all n bytes (omega (arith, size, e))) h.bytes_are

pub sighted_as : (old left now : Option (List ℕ)) (w v p q : List ℕ) (before after : ℕ) → length w ≡ 188 → begins_with_sync w ≡ false → Consumes old left w → v ≡ w → q ≡ p
    → (r : Regained) → Searched r (prepend_known v left) now p before after → Sighted (Some r) old now q before after
sighted_as old left now w v p q before after size l read e f r h =
    subst (λ x. Sighted (Some r) old now x before after) (sym f) (sighted old left now w p before after size l read r (subst (λ x. Searched r (prepend_known x left) now p before after) e h))

pub missed_as : (old left now : Option (List ℕ)) (w v : List ℕ) (before after : ℕ) → Consumes old left w → v ≡ w → Missed (prepend_known v left) now before after → Missed old now before after
missed_as old left now w v before after read e h =
    let k = subst (λ x. Missed (prepend_known x left) now before after) e h in (k.0, k.1, through old left now w (k.0 ++ k.1) read k.2, k.3, k.4)

pub is_sync : (p : List ℕ) → get_or p 0 0 ≡ 71 → begins_with_sync p ≡ true
is_sync p h = ap (λ n. n == 71) h

pub filled : (b a : Bool) (start left : Option (List ℕ)) (p : List ℕ) → b ≡ true → a ≡ false → StartsAt b start (rest_of false a left) p → Consumes start left p
filled true false start left p e k h = h
filled true true start left p e k h = absurd (cc)
filled false a start left p e k h = absurd (cc)

pub unfilled : (b : Bool) (start left : Option (List ℕ)) (p : List ℕ) → (b ≡ true → ⊥) → StartsAt b start left p → start ≡ left
unfilled true start left p never h = absurd (never refl)
unfilled false start left p never h = h
