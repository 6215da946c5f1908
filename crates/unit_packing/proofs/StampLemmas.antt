-- The stamps of a unit stand in its first packet.
use Rattle.std.proofs.Common.{◌≡◌, ℕ, ◌+◌, ◌*◌, ◌/◌, ◌%◌, ◌<◌, ◌≤◌, List, [], ◌++◌, Bool, false, Ok, refl, sym, ap, ◌∙◌, arith, length, take, drop, slice_index, slice_set, ⊎_elim, ◌^◌}
use Rattle.std.specs.Prelude.{nat_lt}
use Rattle.std.proofs.lemmas.Grind.{common_steps}
use Rattle.std.proofs.lemmas.Bool.{cases_lt}
use Rattle.std.proofs.lemmas.List.{append-nil, drop-append-le, take-append-le, set-append_left, length-set, length-take, take-append-drop}
use Rattle.std.proofs.Math.ListN.{get_or-append, drop_of_length-le}
use lib.Seq.{take_all}
use Rattle.ts_packet.proofs.Cases.{by_test}
use Rattle.pes_time.specs.declared.head.PesHead.{PesHead}
use Rattle.pes_time.specs.Stamps.{head_of, is_split, is_untimed, stamp_count, stamp_at, with_stamp_at, restamped, later}
use Rattle.pes_time.proofs.StampLemmas.{untimed, split, single, double, head_case}
use Rattle.pes_time.proofs.ReadLemmas.{more_reads_the_same, restamp_moves_alone}
use Rattle.pes_time.proofs.WriteLemmas.{length-with_stamp_at}
use Rattle.unit_packing.specs.Packing.{room}
use Rattle.unit_packing.specs.Laws.{StampsInFirst}
use Rattle.unit_packing.proofs.UnitPacketLemmas.{room_182}

-- a payload as long as a packet's tells of all stamps
long_whole : (a : List ℕ) → slice_index a 7 < 256 → 19 ≤ length a → is_split a ≡ false
unfolding is_split
long_whole a b l =
    let s : nat_lt (length a) (9 + 5 * stamp_count a) ≡ false = grind (arith, common_steps) in
    by_test (is_untimed a) (λ u. simp u) (λ u. simp (u, s))

-- five bytes written in the front of some bytes
five_in_front : (a m : List ℕ) (k v0 v1 v2 v3 v4 : ℕ) → k + 5 ≤ length a
    → slice_set (slice_set (slice_set (slice_set (slice_set (a ++ m) k v0) (k + 1) v1) (k + 2) v2) (k + 3) v3) (k + 4) v4
    ≡ slice_set (slice_set (slice_set (slice_set (slice_set a k v0) (k + 1) v1) (k + 2) v2) (k + 3) v3) (k + 4) v4 ++ m
five_in_front a m k v0 v1 v2 v3 v4 h =
    let a0 = slice_set a k v0 in
    let a1 = slice_set a0 (k + 1) v1 in
    let a2 = slice_set a1 (k + 2) v2 in
    let a3 = slice_set a2 (k + 3) v3 in
    let l0 : length a0 ≡ length a = length-set a k v0 in
    let l1 : length a1 ≡ length a = length-set a0 (k + 1) v1 ∙ l0 in
    let l2 : length a2 ≡ length a = length-set a1 (k + 2) v2 ∙ l1 in
    let l3 : length a3 ≡ length a = length-set a2 (k + 3) v3 ∙ l2 in
    ap (λ x. slice_set (slice_set (slice_set (slice_set x (k + 1) v1) (k + 2) v2) (k + 3) v3) (k + 4) v4) (set-append_left a m k v0 (omega arith))
    ∙ ap (λ x. slice_set (slice_set (slice_set x (k + 2) v2) (k + 3) v3) (k + 4) v4) (set-append_left a0 m (k + 1) v1 (omega arith))
    ∙ ap (λ x. slice_set (slice_set x (k + 3) v3) (k + 4) v4) (set-append_left a1 m (k + 2) v2 (omega arith))
    ∙ ap (λ x. slice_set x (k + 4) v4) (set-append_left a2 m (k + 3) v3 (omega arith))
    ∙ set-append_left a3 m (k + 4) v4 (omega arith)

-- a stamp written there
stamp_in_front : (a m : List ℕ) (k t : ℕ) → k + 5 ≤ length a → with_stamp_at (a ++ m) k t ≡ with_stamp_at a k t ++ m
unfolding with_stamp_at
stamp_in_front a m k t h =
    rw (get_or-append a m 0 k (omega arith), get_or-append a m 0 (k + 2) (omega arith), get_or-append a m 0 (k + 4) (omega arith))
    (five_in_front a m k (slice_index a k / 16 * 16 + t / 2 ^ 30 * 2 + slice_index a k % 2) (t / 2 ^ 22 % 256) (t / 2 ^ 15 % 128 * 2 + slice_index a (k + 2) % 2) (t / 2 ^ 7 % 256)
    (t % 128 * 2 + slice_index a (k + 4) % 2) h)

restamped_by : (a m : List ℕ) (delta : ℕ) → is_split a ≡ false → head_of (a ++ m) ≡ head_of a → restamped (a ++ m) delta ≡ restamped a delta ++ m
unfolding restamped
restamped_by a m delta whole same = elim (head_case a) [
  | untimed u h p s ↦ rw (same, h) refl
  | split s h p ↦ absurd (cc)
  | single u s long c h p ↦ rw (same, h) (stamp_in_front a m 9 (later delta (stamp_at a 9)) (omega arith))
  | double u s long c h p ↦ (
      let first = with_stamp_at a 9 (later delta (stamp_at a 9)) in
      let l = length-with_stamp_at a 9 (later delta (stamp_at a 9)) in
      rw (same, h) (ap (λ x. with_stamp_at x 14 (later delta (stamp_at a 14))) (stamp_in_front a m 9 (later delta (stamp_at a 9)) (omega arith)) ∙ stamp_in_front first m 14 (later delta (stamp_at a 14)) (omega arith)))
]

module _ (access : Bool) (bs : List ℕ) (byte : slice_index bs 7 < 256) (whole : is_split bs ≡ false) where
  abbrev front : List ℕ
  front = take (room access) bs

  abbrev behind : List ℕ
  behind = drop (room access) bs

  front_whole : is_split front ≡ false
  front_whole = ⊎_elim
      (λ h. ap is_split (take_all (room access) bs (omega arith)) ∙ whole)
      (λ h. let r = room_182 access in
      let l : length front ≡ room access = length-take (room access) bs ∙ omega arith in
      let e : slice_index front 7 ≡ slice_index bs 7 = sym (get_or-append front behind 0 7 (omega arith)) ∙ ap (λ x. slice_index x 7) (take-append-drop (room access) bs) in
      long_whole front (omega (arith, e, byte)) (omega arith))
      (cases_lt (length bs) (room access))

pub same_head : (access : Bool) (bs : List ℕ) → slice_index bs 7 < 256 → is_split bs ≡ false → head_of (take (room access) bs) ≡ head_of bs
same_head access bs byte whole =
    sym ((more_reads_the_same (front access bs byte whole) (behind access bs byte whole) (front_whole access bs byte whole)).0) ∙ ap head_of (take-append-drop (room access) bs)

pub stamps_in_first : StampsInFirst
stamps_in_first access bs delta byte whole =
    let a = take (room access) bs in
    let m = drop (room access) bs in
    let w = front_whole access bs byte whole in
    (w, ap (λ x. restamped x delta) (sym (take-append-drop (room access) bs)) ∙ restamped_by a m delta w ((more_reads_the_same a m w).0))

-- a unit whose head was read is not split
pub read_whole : (bs : List ℕ) (head : PesHead) → head_of bs ≡ Ok head → is_split bs ≡ false
read_whole bs head r = elim (head_case bs) [
  | untimed u h p s ↦ s
  | split s h p ↦ absurd (cc)
  | single u s long c h p ↦ s
  | double u s long c h p ↦ s
]

-- the bytes of a moved unit that go into its first packet, and the others
module _ (access : Bool) (bs : List ℕ) (delta : ℕ) (byte : slice_index bs 7 < 256) (whole : is_split bs ≡ false) where
  abbrev a : List ℕ
  a = take (room access) bs

  abbrev m : List ℕ
  m = drop (room access) bs

  moved_is : restamped bs delta ≡ restamped a delta ++ m
  moved_is = (stamps_in_first access bs delta byte whole).1

  same_size : length (restamped a delta) ≡ length a
  same_size = (restamp_moves_alone a delta).size

  none_behind : length bs ≤ room access → m ≡ []
  none_behind h = drop_of_length-le bs h

  pub first_moved : take (room access) (restamped bs delta) ≡ restamped a delta
  first_moved = ap (take (room access)) moved_is ∙ ⊎_elim
      (λ h. ap (λ l. take (room access) (restamped a delta ++ l)) (none_behind (omega arith)) ∙ ap (take (room access)) (append-nil (restamped a delta)) ∙ take_all (room access) (restamped a delta) (rw same_size (rw (length-take (room access) bs) (omega arith))))
      (λ h. let l : length (restamped a delta) ≡ room access = same_size ∙ length-take (room access) bs ∙ omega arith in
      take-append-le (room access) (restamped a delta) m (omega (arith, l)) ∙ take_all (room access) (restamped a delta) (omega (arith, l)))
      (cases_lt (length bs) (room access))

  pub rest_same : drop (room access) (restamped bs delta) ≡ m
  rest_same = ap (drop (room access)) moved_is ∙ ⊎_elim
      (λ h. drop-append-le' (room access) (restamped a delta) m (none_behind (omega arith)) (rw same_size (rw (length-take (room access) bs) (omega arith))))
      (λ h. let l : length (restamped a delta) ≡ room access = same_size ∙ length-take (room access) bs ∙ omega arith in
      drop-append-le (room access) (restamped a delta) m (omega (arith, l)) ∙ ap (λ x. x ++ m) (drop_of_length-le (restamped a delta) (omega (arith, l))))
      (cases_lt (length bs) (room access))
    where
      drop-append-le' : (k : ℕ) (xs ys : List ℕ) → ys ≡ [] → length xs ≤ k → drop k (xs ++ ys) ≡ ys
      drop-append-le' k xs ys e h = ap (λ l. drop k (xs ++ l)) e ∙ ap (drop k) (append-nil xs) ∙ drop_of_length-le xs h ∙ sym e
