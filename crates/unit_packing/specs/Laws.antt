-- What holds of the packets of units whatever code puts them.
use Rattle.std.specs.Prelude.{◌≡◌, ℕ, ◌<◌, List, [], ◌∷◌, ◌++◌, Bool, false, Option, None, length, take, drop, slice_index, reverse, All}
use Rattle.ts_packet.specs.Fields.{random_access, pcr, scrambled}
use Rattle.ts_packet.specs.Packets.{packet_fault}
use Rattle.ts_packet.specs.Duplicates.{nearest, IsNext}
use Rattle.ts_packet.specs.Runs.{IsGaplessAfter}
use Rattle.unit_stream.specs.Units.{units, payloads}
use Rattle.unit_stream.specs.UnitPackets.{IsPacked}
use Rattle.unit_stream.specs.Carrying.{CarriesUnits}
use Rattle.pes_time.specs.Stamps.{is_split, restamped}
use Rattle.unit_packing.specs.Packing.{room, unit_packets}

-- they are payload packets of the PID whose payloads join to the unit, and the first alone begins one
abbrev pub UnitsArePacked : Type 0
UnitsArePacked = (pid n : ℕ) (access : Bool) (bs : List ℕ) → pid < 8192 → n < 16 → 0 < length bs → IsPacked pid bs n (unit_packets pid access n bs)

-- whatever packets are packed so carry that one unit
abbrev pub PackedCarry : Type 0
PackedCarry = (pid n : ℕ) (bs : List ℕ) (qs : List (List ℕ)) → IsPacked pid bs n qs → CarriesUnits qs (bs ∷ [])

-- whole packets of 188 bytes, none scrambled and none with a clock reference
pub record IsPlain (p : List ℕ) : Type 0 where
  pub size : length p ≡ 188
  pub sound : packet_fault p ≡ None
  pub clear : scrambled p ≡ false
  pub clock : pcr p ≡ None

abbrev pub PacketsArePlain : Type 0
PacketsArePlain = (pid n : ℕ) (access : Bool) (bs : List ℕ) → pid < 8192 → n < 16 → 0 < length bs → All IsPlain (unit_packets pid access n bs)

-- random access is marked in the first where it is asked for, and nowhere else
abbrev pub AccessIsMarked : Type 0
AccessIsMarked = (pid n : ℕ) (access : Bool) (bs : List ℕ) → pid < 8192 → n < 16 → 0 < length bs →
    (first : List ℕ) × (rest : List (List ℕ)) × (unit_packets pid access n bs ≡ first ∷ rest) × (random_access first ≡ access) × All (λ (p : List ℕ). random_access p ≡ false) rest

-- behind the last payload packet of the PID, or of its head, whose counter the first goes on from
pub record GoesOn (before : Option (List ℕ)) (pid n : ℕ) (ps : List (List ℕ)) (first : List ℕ) : Type 0 where
  pub gapless : IsGaplessAfter before pid ps
  pub next : IsNext first (nearest before pid (reverse ps))

-- THEY READ BACK, on a PID that is gapless up to them: it stays so, and its units are those before and this one
abbrev pub PackedReadBack : Type 0
PackedReadBack = (before : Option (List ℕ)) (switched : List ℕ) (pid n : ℕ) (bs : List ℕ) (ps : List (List ℕ)) (first : List ℕ) (rest : List (List ℕ)) → IsPacked pid bs n (first ∷ rest) →
    GoesOn before pid n ps first → IsGaplessAfter before pid (ps ++ first ∷ rest) × (payloads (units switched pid (ps ++ first ∷ rest)) ≡ payloads (units switched pid ps) ++ bs ∷ [])

-- the stamps of a unit, whose byte 7 is a byte, all stand in its first packet
abbrev pub StampsInFirst : Type 0
StampsInFirst = (access : Bool) (bs : List ℕ) (delta : ℕ) → slice_index bs 7 < 256 → is_split bs ≡ false →
    (is_split (take (room access) bs) ≡ false) × (restamped bs delta ≡ restamped (take (room access) bs) delta ++ drop (room access) bs)
