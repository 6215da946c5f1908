-- The packet that carries a program clock reference alone (ISO/IEC 13818-1, 2.4.3.5).
use Rattle.std.specs.Prelude.{◌≡◌, ℕ, ◌+◌, ◌/◌, ◌%◌, List, ◌∷◌, ◌++◌, None, replicate}
use Rattle.ts_packet.specs.Fields.{pcr, pid_of, number, payload}
use Rattle.ts_packet.specs.Packets.{packet_fault}

-- No start and no priority, not scrambled; adaptation_field_control 10, a field of 183 bytes with PCR_flag alone, the six bytes of
-- the reference, and stuffing.
abbrev pub clock_packet : ℕ → ℕ → List ℕ → List ℕ
clock_packet pid n clock = 71 ∷ (pid / 256) ∷ (pid % 256) ∷ (32 + n) ∷ 183 ∷ 16 ∷ (clock ++ replicate 176 255)

-- the second has the first's PID and reference, this counter and no payload, and is a packet
pub record KeepsClock (p q : List ℕ) (n : ℕ) : Type 0 where
  pub clock : pcr q ≡ pcr p
  pub pid : pid_of q ≡ pid_of p
  pub number : number q ≡ n
  pub payload : payload q ≡ None
  pub sound : packet_fault q ≡ None
