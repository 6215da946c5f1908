-- What a packet of a unit says to whoever reads it.
use Rattle.std.proofs.Common.{◌≡◌, ℕ, zero, suc, ◌+◌, ◌-◌, ◌*◌, ◌/◌, ◌%◌, ◌<◌, ◌≤◌, ◌==◌, List, [], ◌∷◌, ◌++◌, Bool, true, false, None, Some, refl, sym, ap, ◌∙◌, arith, length, drop, slice_index, if◌then◌else◌, length-append}
use Rattle.std.specs.Prelude.{nat_le, ◌&&◌}
use Rattle.std.proofs.Math.ListN.{drop_of_length-le}
use Rattle.std.proofs.lemmas.Grind.{common_steps}
use Rattle.std.proofs.lemmas.List.{drop-drop, drop-append-le}
use Rattle.ts_packet.proofs.Cases.{by_test}
use Rattle.ts_packet.specs.Fields.{in_error, unit_start, pid_of, scrambled, number, payload, random_access, pcr}
use Rattle.ts_packet.specs.Packets.{packet_fault}
use Rattle.std.proofs.Math.Bool.{and-false}
use Rattle.unit_packing.specs.Packing.{field, header_front, unit_packet}
use Rattle.unit_packing.proofs.PacketLemmas.{length-front, length-field}

-- the second byte, by the start bit
record Second (pid b : ℕ) (start : Bool) : Type 0 where
  error : b / 128 % 2 ≡ 0
  begins : (b / 64 % 2 == 1) ≡ start
  high : b % 32 ≡ pid / 256

second : (pid : ℕ) (start : Bool) → pid < 8192 → Second pid (pid / 256 + (if start then 64 else 0)) start
second pid true h = let e : (pid / 256 + 64) / 64 % 2 ≡ 1 = omega arith in record { error = omega arith; begins = rw e refl; high = omega arith }
second pid false h = let e : (pid / 256 + 0) / 64 % 2 ≡ 0 = omega arith in record { error = omega arith; begins = rw e refl; high = omega arith }

-- what all packets of units have in common
pub record Says (pid n : ℕ) (start : Bool) (part p : List ℕ) : Type 0 where
  pub error : in_error p ≡ false
  pub begins : unit_start p ≡ start
  pub same_pid : pid_of p ≡ pid
  pub counter : number p ≡ n
  pub carried : payload p ≡ Some part
  pub clear : scrambled p ≡ false
  pub clock : pcr p ≡ None
  pub sound : packet_fault p ≡ None

two_bytes : (pid b : ℕ) → b % 32 ≡ pid / 256 → b % 32 * 256 + pid % 256 ≡ pid
two_bytes pid b h = omega (arith, h)

-- a packet that the bytes fill
module _ (pid n b : ℕ) (start : Bool) (part : List ℕ) (k : n < 16) (s : Second pid b start) where
  abbrev filled : List ℕ
  filled = 71 ∷ b ∷ pid % 256 ∷ (16 + n) ∷ part

  control_1 : (16 + n) / 16 % 4 ≡ 1
  control_1 = omega arith

  error_1 : in_error filled ≡ false
  unfolding in_error
  error_1 = rw s.error refl

  clear_1 : (16 + n) / 64 ≡ 0
  clear_1 = omega arith

  number_1 : (16 + n) % 16 ≡ n
  number_1 = omega arith

  said_filled : Says pid n start part filled
  unfolding unit_start pid_of number payload scrambled pcr packet_fault
  said_filled = record {
    error = error_1;
    begins = s.begins;
    same_pid = two_bytes pid b s.high;
    counter = number_1;
    carried = rw (error_1, control_1) refl;
    clear = rw clear_1 refl;
    clock = rw (error_1, control_1) refl;
    sound = rw (error_1, control_1) refl;
  }

  unmarked_filled : random_access filled ≡ false
  unfolding random_access
  unmarked_filled = rw (error_1, control_1) refl

-- the flags: none in a field of length 0
pub flags_clock : (access : Bool) (l : ℕ) (part : List ℕ) → (nat_le 7 l && (slice_index (field access l ++ part) 0 / 16 % 2 == 1)) ≡ false
flags_clock access zero part = refl
flags_clock true (suc j) part = and-false (nat_le 7 (suc j))
flags_clock false (suc j) part = and-false (nat_le 7 (suc j))

flags_marked : (access : Bool) (l : ℕ) (part : List ℕ) → (nat_le 1 l && (slice_index (field access l ++ part) 0 / 64 % 2 == 1)) ≡ (nat_le 1 l && access)
flags_marked access zero part = refl
flags_marked true (suc j) part = refl
flags_marked false (suc j) part = refl

past_field : (access : Bool) (l : ℕ) (part : List ℕ) → drop l (field access l ++ part) ≡ part
past_field access l part =
    let e : length (field access l) ≡ l = length-field access l in
    let d : drop l (field access l) ≡ [] = drop_of_length-le (field access l) (omega arith) in
    drop-append-le l (field access l) part (omega arith) ∙ ap (λ x. x ++ part) d

-- a packet with an adaptation field of this length
module _ (pid n b l : ℕ) (start access : Bool) (part : List ℕ) (k : n < 16) (s : Second pid b start) (m : l ≤ 182) where
  abbrev stuffed : List ℕ
  stuffed = 71 ∷ b ∷ pid % 256 ∷ (48 + n) ∷ l ∷ (field access l ++ part)

  control_3 : (48 + n) / 16 % 4 ≡ 3
  control_3 = omega arith

  error_3 : in_error stuffed ≡ false
  unfolding in_error
  error_3 = rw s.error refl

  clear_3 : (48 + n) / 64 ≡ 0
  clear_3 = omega arith

  number_3 : (48 + n) % 16 ≡ n
  number_3 = omega arith

  within_3 : nat_le l 182 ≡ true
  within_3 = grind (arith, common_steps)

  behind : drop (5 + l) stuffed ≡ part
  behind = sym (drop-drop l 5 stuffed) ∙ past_field access l part

  no_clock : (nat_le 7 l && (slice_index stuffed 5 / 16 % 2 == 1)) ≡ false
  no_clock = flags_clock access l part

  marked : (nat_le 1 l && (slice_index stuffed 5 / 64 % 2 == 1)) ≡ (nat_le 1 l && access)
  marked = flags_marked access l part

  said_stuffed : Says pid n start part stuffed
  unfolding unit_start pid_of number payload scrambled pcr packet_fault
  said_stuffed = record {
    error = error_3;
    begins = s.begins;
    same_pid = two_bytes pid b s.high;
    counter = number_3;
    carried = rw (error_3, control_3, within_3, behind) refl;
    clear = rw clear_3 refl;
    clock = rw (error_3, control_3, no_clock) refl;
    sound = rw (error_3, control_3, within_3) refl;
  }

  marked_stuffed : random_access stuffed ≡ (nat_le 1 l && access)
  unfolding random_access
  marked_stuffed = rw (error_3, control_3) marked

same_room : (size : ℕ) → nat_le 1 (183 - size) ≡ nat_le size 182
same_room size = by_test (nat_le size 182) (λ e. grind (arith, common_steps)) (λ e. grind (arith, common_steps))

-- ---- a packet of a unit

module _ (pid n : ℕ) (start access : Bool) (part : List ℕ) (h : pid < 8192) (k : n < 16) (m : length part ≤ 184) (z : 0 < length part) where
  abbrev b : ℕ
  b = pid / 256 + (if start then 64 else 0)

  pub said : Says pid n start part (unit_packet pid n start access part)
  unfolding unit_packet
  said = by_test (length part == 184)
      (λ e. rw e (said_filled pid n b start part k (second pid start h)))
      (λ e. rw e (said_stuffed pid n b (183 - length part) start access part k (second pid start h) (omega arith)))

  pub said_access : random_access (unit_packet pid n start access part) ≡ (nat_le (length part) 182 && access)
  unfolding unit_packet
  said_access = by_test (length part == 184)
      (λ e. let f : nat_le (length part) 182 ≡ false = grind (arith, common_steps) in rw (e, f) (unmarked_filled pid n b start part k (second pid start h)))
      (λ e. let f : nat_le 1 (183 - length part) ≡ nat_le (length part) 182 = same_room (length part) in
      rw e (marked_stuffed pid n b (183 - length part) start access part k (second pid start h) (omega arith) ∙ ap (λ t. t && access) f))

  pub size : length (unit_packet pid n start access part) ≡ 188
  unfolding unit_packet
  size = length-append (header_front pid n start access (length part)) part ∙ length-front pid n (length part) start access m
