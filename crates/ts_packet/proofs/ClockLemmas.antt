-- What the packet that carries a clock reference alone says.
use Rattle.std.proofs.Common.{◌≡◌, ℕ, ◌+◌, ◌/◌, ◌%◌, ◌<◌, List, [], ◌∷◌, ◌++◌, None, Some, false, arith, length, refl, sym, ap, ◌∙◌, slice_index, replicate, take}
use lib.Seq.{take_all, take-append-le}
use Rattle.ts_packet.specs.Fields.{pcr, pid_of, number, payload, in_error}
use Rattle.ts_packet.specs.Packets.{packet_fault}
use Rattle.ts_packet.specs.Clock.{clock_packet, KeepsClock}

-- a list of six is its six elements
pub six : (c : List ℕ) → length c ≡ 6 → slice_index c 0 ∷ slice_index c 1 ∷ slice_index c 2 ∷ slice_index c 3 ∷ slice_index c 4 ∷ slice_index c 5 ∷ [] ≡ c
six [] h = absurd (grind (arith, h))
six (a ∷ []) h = absurd (grind (arith, h))
six (a ∷ b ∷ []) h = absurd (grind (arith, h))
six (a ∷ b ∷ c ∷ []) h = absurd (grind (arith, h))
six (a ∷ b ∷ c ∷ d ∷ []) h = absurd (grind (arith, h))
six (a ∷ b ∷ c ∷ d ∷ e ∷ []) h = absurd (grind (arith, h))
six (a ∷ b ∷ c ∷ d ∷ e ∷ f ∷ []) h = refl
six (a ∷ b ∷ c ∷ d ∷ e ∷ f ∷ g ∷ r) h = absurd (grind (arith, h))

-- the code's writes give the packet
pub clock_packet-is : (pid number n : ℕ) (c : List ℕ) → length c ≡ 6 → number ≡ pid
    → 71 ∷ (number / 256) ∷ (number % 256) ∷ (32 + n) ∷ 183 ∷ 16 ∷ slice_index c 0 ∷ slice_index c 1 ∷ slice_index c 2 ∷ slice_index c 3 ∷ slice_index c 4 ∷ slice_index c 5 ∷ replicate 176 255
    ≡ clock_packet pid n c
clock_packet-is pid number n c h e = ap (λ k. 71 ∷ (k / 256) ∷ (k % 256) ∷ (32 + n) ∷ 183 ∷ 16 ∷ ((slice_index c 0 ∷ slice_index c 1 ∷ slice_index c 2 ∷ slice_index c 3 ∷ slice_index c 4 ∷ slice_index c 5 ∷ []) ++ replicate 176 255)) e
    ∙ ap (λ l. 71 ∷ (pid / 256) ∷ (pid % 256) ∷ (32 + n) ∷ 183 ∷ 16 ∷ (l ++ replicate 176 255)) (six c h)

-- ---- what it says

pub first_five : (pid : ℕ) → pid < 8192 → pid / 256 / 128 % 2 ≡ 0
first_five pid h = omega arith

pub error-clock : (pid n : ℕ) (c : List ℕ) → pid < 8192 → in_error (clock_packet pid n c) ≡ false
unfolding in_error
error-clock pid n c h = rw (first_five pid h) refl

pub control-clock : (n : ℕ) → n < 16 → (32 + n) / 16 % 4 ≡ 2
control-clock n h = omega arith

front_six : (c : List ℕ) → length c ≡ 6 → take 6 (c ++ replicate 176 255) ≡ c
front_six c h = take-append-le 6 c (replicate 176 255) (omega arith) ∙ take_all 6 c (omega arith)

pcr-clock : (pid n : ℕ) (c : List ℕ) → pid < 8192 → n < 16 → length c ≡ 6 → pcr (clock_packet pid n c) ≡ Some c
unfolding pcr
pcr-clock pid n c h k s = rw (error-clock pid n c h, control-clock n k, front_six c s) refl

payload-clock : (pid n : ℕ) (c : List ℕ) → pid < 8192 → n < 16 → payload (clock_packet pid n c) ≡ None
unfolding payload
payload-clock pid n c h k = rw (error-clock pid n c h, control-clock n k) refl

sound-clock : (pid n : ℕ) (c : List ℕ) → pid < 8192 → n < 16 → packet_fault (clock_packet pid n c) ≡ None
unfolding packet_fault
sound-clock pid n c h k = rw (error-clock pid n c h, control-clock n k) refl

pub pid-clock : (pid n : ℕ) (c : List ℕ) → pid < 8192 → pid_of (clock_packet pid n c) ≡ pid
unfolding pid_of
pid-clock pid n c h = omega arith

pub number-clock : (pid n : ℕ) (c : List ℕ) → n < 16 → number (clock_packet pid n c) ≡ n
unfolding number
number-clock pid n c h = omega arith

pub keeps_clock : (p q c : List ℕ) (pid n : ℕ) → q ≡ clock_packet pid n c → pid ≡ pid_of p → pid < 8192 → n < 16 → length c ≡ 6 → pcr p ≡ Some c → KeepsClock p q n
keeps_clock p q c pid n is same h k s e = record {
  clock = ap pcr is ∙ pcr-clock pid n c h k s ∙ sym e;
  pid = ap pid_of is ∙ pid-clock pid n c h ∙ same;
  number = ap number is ∙ number-clock pid n c k;
  payload = ap payload is ∙ payload-clock pid n c h k;
  sound = ap packet_fault is ∙ sound-clock pid n c h k;
}
