-- Packets that carry one unit on a PID (ISO/IEC 13818-1, 2.4.3.3), whatever their adaptation fields, and what they do to its counter.
use Rattle.std.specs.Prelude.{◌≡◌, ℕ, ◌+◌, ◌%◌, ◌∷◌, List, [], true, false, flat_map}
use Rattle.ts_packet.specs.Fields.{payload_on, unit_start, number, bytes}
use Rattle.ts_packet.specs.Numbering.{Step, Inserted}

abbrev pub AllOn : ℕ → List (List ℕ) → Type 0
AllOn pid [] = Unit {0}
AllOn pid (q ∷ qs) = (payload_on pid q ≡ true) × AllOn pid qs

abbrev pub GoOn : List (List ℕ) → Type 0
GoOn [] = Unit {0}
GoOn (q ∷ qs) = (unit_start q ≡ false) × GoOn qs

-- the first alone has the start bit, and there is one
abbrev pub BeginsAlone : List (List ℕ) → Type 0
BeginsAlone [] = ⊥
BeginsAlone (q ∷ qs) = (unit_start q ≡ true) × GoOn qs

-- the counters go up by one, modulo 16
abbrev pub CountsFrom : ℕ → List (List ℕ) → Type 0
CountsFrom n [] = Unit {0}
CountsFrom n (q ∷ qs) = (number q ≡ n) × CountsFrom ((n + 1) % 16) qs

-- PACKETS OF ONE UNIT: payload packets of the PID whose payloads join to its bytes
pub record IsPacked (pid : ℕ) (bs : List ℕ) (n : ℕ) (qs : List (List ℕ)) : Type 0 where
  pub on_pid : AllOn pid qs
  pub starts : BeginsAlone qs
  pub counted : CountsFrom n qs
  pub joined : flat_map bytes qs ≡ bs

-- one step of the PID's counter for each packet put in
abbrev pub put_in : List (List ℕ) → List Step → List Step
put_in [] counter_steps = counter_steps
put_in (q ∷ qs) counter_steps = put_in qs (Inserted ∷ counter_steps)
