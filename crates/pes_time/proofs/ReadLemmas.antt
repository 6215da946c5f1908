-- What is read of longer bytes, and of bytes whose stamps were moved.
use Rattle.std.proofs.Common.{◌≡◌, ℕ, ◌+◌, ◌^◌, ◌<◌, ◌≤◌, ◌==◌, inl, true, false, List, length, ◌++◌, sym, ◌∙◌, ap, arith, lit≤, None, Some, Ok, Err, length-append}
use Rattle.std.proofs.Math.ListN.{get_or-append}
use Rattle.std.specs.Prelude.{option_map}
use Rattle.pes_time.specs.declared.head.PesHead.{PesHead}
use Rattle.pes_time.specs.declared.head.PesHead.TheVariants.{Timed, Untimed}
use Rattle.pes_time.specs.Stamps.{is_untimed, is_split, stamp_count, stamp_at, head_of, stamp_of, with_stamp_at, with_each, read_with, later, restamped, with_stamps_zeroed, MovesStampsAlone}
use Rattle.pes_time.proofs.StampLemmas.{untimed, split, single, double, head_case, SameFront, stamp_count-same, is_untimed-same, is_split-whole, is_untimed-more}
use Rattle.pes_time.proofs.WriteLemmas.{length-with_stamp_at, with_stamp_at-other, stamp_at-with_stamp_at, stamp_at-elsewhere, with_stamp_at-twice, with_stamp_at-apart}

-- what is read of a payload without a stamp, of one with a PTS, of one with both
pub read-untimed : (a : List ℕ) → is_untimed a ≡ true → (head_of a ≡ Ok Untimed) × (stamp_of a ≡ None) × (is_split a ≡ false)
unfolding head_of stamp_of is_split
read-untimed a u = (rw u, rw u, rw u)

pub read-single : (a : List ℕ) → is_untimed a ≡ false → is_split a ≡ false → (stamp_count a == 2) ≡ false → (head_of a ≡ Ok (Timed (stamp_at a 9) None 9 None)) × (stamp_of a ≡ Some (stamp_at a 9)) × (is_split a ≡ false)
unfolding head_of stamp_of
read-single a u s c = (rw (u, s, c), rw (u, s), s)

pub read-double : (a : List ℕ) → is_untimed a ≡ false → is_split a ≡ false → (stamp_count a == 2) ≡ true → (head_of a ≡ Ok (Timed (stamp_at a 9) (Some (stamp_at a 14)) 9 (Some 14))) × (stamp_of a ≡ Some (stamp_at a 9)) × (is_split a ≡ false)
unfolding head_of stamp_of
read-double a u s c = (rw (u, s, c), rw (u, s), s)

front-more : (a more : List ℕ) → 14 ≤ length a → SameFront a (a ++ more)
front-more a more long = record {
  long_a = omega arith;
  long_b = simp length-append (omega arith);
  bytes = λ j below. get_or-append a more 0 j (omega arith);
}

stamp-more : (a more : List ℕ) (k : ℕ) → k + 5 ≤ length a → stamp_at (a ++ more) k ≡ stamp_at a k
stamp-more a more k room =
    rw (get_or-append a more 0 k (omega arith), get_or-append a more 0 (k + 1) (omega arith), get_or-append a more 0 (k + 2) (omega arith), get_or-append a more 0 (k + 3) (omega arith), get_or-append a more 0 (k + 4) (omega arith))

pub more_reads_the_same : (a more : List ℕ) → is_split a ≡ false → (head_of (a ++ more) ≡ head_of a) × (stamp_of (a ++ more) ≡ stamp_of a) × (is_split (a ++ more) ≡ false)
more_reads_the_same a more whole = elim (head_case a) [
  | untimed u h p s ↦ (let r = read-untimed (a ++ more) (is_untimed-more a more u) in (r.0 ∙ sym h, r.1 ∙ sym p, r.2))
  | split s h p ↦ absurd (cc)
  | single u s long c h p ↦ (
      let f : SameFront a (a ++ more) = front-more a more long in
      let longer : length a ≤ length (a ++ more) = simp length-append (omega arith) in
      let pts : stamp_at (a ++ more) 9 ≡ stamp_at a 9 = stamp-more a more 9 (omega arith) in
      let r = read-single (a ++ more) (is_untimed-same a (a ++ more) f ∙ u) (is_split-whole a (a ++ more) f longer u s) (ap (λ n. n == 2) (stamp_count-same a (a ++ more) f) ∙ c) in
      (r.0 ∙ ap (λ t. Ok (Timed t None 9 None)) pts ∙ sym h, r.1 ∙ ap (λ t. Some t) pts ∙ sym p, r.2))
  | double u s long c h p ↦ (
      let f : SameFront a (a ++ more) = front-more a more (omega arith) in
      let longer : length a ≤ length (a ++ more) = simp length-append (omega arith) in
      let pts : stamp_at (a ++ more) 9 ≡ stamp_at a 9 = stamp-more a more 9 (omega arith) in
      let dts : stamp_at (a ++ more) 14 ≡ stamp_at a 14 = stamp-more a more 14 long in
      let r = read-double (a ++ more) (is_untimed-same a (a ++ more) f ∙ u) (is_split-whole a (a ++ more) f longer u s) (ap (λ n. n == 2) (stamp_count-same a (a ++ more) f) ∙ c) in
      (r.0 ∙ ap (λ t. Ok (Timed t (Some (stamp_at (a ++ more) 14)) 9 (Some 14))) pts ∙ ap (λ t. Ok (Timed (stamp_at a 9) (Some t) 9 (Some 14))) dts ∙ sym h, r.1 ∙ ap (λ t. Some t) pts ∙ sym p, r.2))
]

-- a stamp written at or past byte 9 leaves the front
front-written : (a : List ℕ) (k t : ℕ) → 9 ≤ k → 14 ≤ length a → SameFront a (with_stamp_at a k t)
front-written a k t behind long = record {
  long_a = omega arith;
  long_b = rw (length-with_stamp_at a k t) (omega arith);
  bytes = λ j below. with_stamp_at-other a k t j (inl (omega arith));
}

-- bytes that a move of the stamps leaves whole
kept : (a : List ℕ) (delta : ℕ) → restamped a delta ≡ a → head_of a ≡ read_with (later delta) (head_of a) → stamp_of a ≡ option_map (later delta) (stamp_of a) → MovesStampsAlone a delta
kept a delta e h p = record {
  head = rw e h;
  stamp = rw e p;
  split = rw e;
  rest = rw e;
  size = rw e;
}

restamped-untimed : (a : List ℕ) (delta : ℕ) → head_of a ≡ Ok Untimed → restamped a delta ≡ a
unfolding restamped
restamped-untimed a delta h = rw h

restamped-split : (a : List ℕ) (delta : ℕ) → head_of a ≡ Err (record {}) → restamped a delta ≡ a
unfolding restamped
restamped-split a delta h = rw h

restamped-single : (a : List ℕ) (delta t : ℕ) → head_of a ≡ Ok (Timed t None 9 None) → restamped a delta ≡ with_stamp_at a 9 (later delta t)
unfolding restamped
restamped-single a delta t h = rw h

restamped-double : (a : List ℕ) (delta t u : ℕ) → head_of a ≡ Ok (Timed t (Some u) 9 (Some 14)) → restamped a delta ≡ with_stamp_at (with_stamp_at a 9 (later delta t)) 14 (later delta u)
unfolding restamped
restamped-double a delta t u h = rw h

zeroed-single : (a : List ℕ) (t : ℕ) → head_of a ≡ Ok (Timed t None 9 None) → with_stamps_zeroed a ≡ with_stamp_at a 9 0
unfolding with_stamps_zeroed
zeroed-single a t h = rw h

zeroed-double : (a : List ℕ) (t u : ℕ) → head_of a ≡ Ok (Timed t (Some u) 9 (Some 14)) → with_stamps_zeroed a ≡ with_stamp_at (with_stamp_at a 9 0) 14 0
unfolding with_stamps_zeroed
zeroed-double a t u h = rw h

-- a PTS alone, moved
single-moved : (a : List ℕ) (delta : ℕ) → is_untimed a ≡ false → is_split a ≡ false → 14 ≤ length a → (stamp_count a == 2) ≡ false → head_of a ≡ Ok (Timed (stamp_at a 9) None 9 None) → stamp_of a ≡ Some (stamp_at a 9) → MovesStampsAlone a delta
single-moved a delta u s long c h p =
    let t = later delta (stamp_at a 9) in
    let below : t < 2 ^ 33 = omega arith in
    let b = with_stamp_at a 9 t in
    let e : restamped a delta ≡ b = restamped-single a delta (stamp_at a 9) h in
    let f : SameFront a b = front-written a 9 t (lit≤ tt) long in
    let size : length b ≡ length a = length-with_stamp_at a 9 t in
    let longer : length a ≤ length b = omega arith in
    let r = read-single b (is_untimed-same a b f ∙ u) (is_split-whole a b f longer u s) (ap (λ n. n == 2) (stamp_count-same a b f) ∙ c) in
    let pts : stamp_at b 9 ≡ t = stamp_at-with_stamp_at a 9 t below long in
    let head : head_of b ≡ Ok (Timed t None 9 None) = r.0 ∙ ap (λ x. Ok (Timed x None 9 None)) pts in
    record {
      head = rw (e, head, h);
      stamp = rw (e, r.1, pts, p);
      split = rw (e, r.2, s);
      rest = rw e (zeroed-single b t head ∙ with_stamp_at-twice a 9 t 0 below long ∙ sym (zeroed-single a (stamp_at a 9) h));
      size = rw e size;
    }

-- PTS and DTS, moved
double-moved : (a : List ℕ) (delta : ℕ) → is_untimed a ≡ false → is_split a ≡ false → 19 ≤ length a → (stamp_count a == 2) ≡ true → head_of a ≡ Ok (Timed (stamp_at a 9) (Some (stamp_at a 14)) 9 (Some 14)) → stamp_of a ≡ Some (stamp_at a 9) → MovesStampsAlone a delta
double-moved a delta u s long c h p =
    let t = later delta (stamp_at a 9) in
    let d = later delta (stamp_at a 14) in
    let below_t : t < 2 ^ 33 = omega arith in
    let below_d : d < 2 ^ 33 = omega arith in
    let w = with_stamp_at a 9 t in
    let b = with_stamp_at w 14 d in
    let e : restamped a delta ≡ b = restamped-double a delta (stamp_at a 9) (stamp_at a 14) h in
    let room : 14 ≤ length a = omega arith in
    let size_w : length w ≡ length a = length-with_stamp_at a 9 t in
    let size_b : length b ≡ length w = length-with_stamp_at w 14 d in
    let long_w : 19 ≤ length w = omega arith in
    let f : SameFront a w = front-written a 9 t (lit≤ tt) room in
    let g : SameFront w b = front-written w 14 d (lit≤ tt) (omega arith) in
    let longer_w : length a ≤ length w = omega arith in
    let longer_b : length w ≤ length b = omega arith in
    let u_w : is_untimed w ≡ false = is_untimed-same a w f ∙ u in
    let s_w : is_split w ≡ false = is_split-whole a w f longer_w u s in
    let c_b : (stamp_count b == 2) ≡ true = ap (λ n. n == 2) (stamp_count-same w b g ∙ stamp_count-same a w f) ∙ c in
    let r = read-double b (is_untimed-same w b g ∙ u_w) (is_split-whole w b g longer_b u_w s_w) c_b in
    let pts : stamp_at b 9 ≡ t = stamp_at-elsewhere w 14 d 9 (inl (lit≤ tt)) ∙ stamp_at-with_stamp_at a 9 t below_t room in
    let dts : stamp_at b 14 ≡ d = stamp_at-with_stamp_at w 14 d below_d long_w in
    let head : head_of b ≡ Ok (Timed t (Some d) 9 (Some 14)) =
    r.0 ∙ ap (λ x. Ok (Timed x (Some (stamp_at b 14)) 9 (Some 14))) pts ∙ ap (λ x. Ok (Timed t (Some x) 9 (Some 14))) dts in
    let z = with_stamp_at a 9 0 in
    let size_z : length z ≡ length a = length-with_stamp_at a 9 0 in
    let long_z : 19 ≤ length z = omega arith in
    let nine : with_stamp_at b 9 0 ≡ with_stamp_at z 14 d =
    sym (with_stamp_at-apart w 9 14 0 d (lit≤ tt) long_w) ∙ ap (λ x. with_stamp_at x 14 d) (with_stamp_at-twice a 9 t 0 below_t room) in
    let zeroed : with_stamp_at (with_stamp_at b 9 0) 14 0 ≡ with_stamp_at z 14 0 =
    ap (λ x. with_stamp_at x 14 0) nine ∙ with_stamp_at-twice z 14 d 0 below_d long_z in
    record {
      head = rw (e, head, h);
      stamp = rw (e, r.1, pts, p);
      split = rw (e, r.2, s);
      rest = rw e (zeroed-double b t d head ∙ zeroed ∙ sym (zeroed-double a (stamp_at a 9) (stamp_at a 14) h));
      size = rw e (size_b ∙ size_w);
    }

pub restamp_moves_alone : (a : List ℕ) (delta : ℕ) → MovesStampsAlone a delta
restamp_moves_alone a delta = elim (head_case a) [
  | untimed u h p s ↦ kept a delta (restamped-untimed a delta h) (rw h) (rw p)
  | split s h p ↦ kept a delta (restamped-split a delta h) (rw h) (rw p)
  | single u s long c h p ↦ single-moved a delta u s long c h p
  | double u s long c h p ↦ double-moved a delta u s long c h p
]

-- the same by what stood before, for a call
pub moved_head : (old new : List ℕ) (delta : ℕ) (head : PesHead) → head_of old ≡ Ok head → new ≡ restamped old delta → head_of new ≡ Ok (with_each (later delta) head)
moved_head old new delta head h e = rw e ((restamp_moves_alone old delta).head ∙ ap (read_with (later delta)) h)

pub moved_rest : (old new : List ℕ) (delta : ℕ) → new ≡ restamped old delta → with_stamps_zeroed new ≡ with_stamps_zeroed old
moved_rest old new delta e = rw e (restamp_moves_alone old delta).rest
