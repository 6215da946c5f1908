-- Which units a list of payload packets carries, whichever packets a reader takes for doubles.
use Rattle.std.specs.Prelude.{◌≡◌, ℕ, ◌++◌, ◌∷◌, ◌⊎◌, List, [], true, false, Option, None, Some}
use Rattle.ts_packet.specs.Fields.{unit_start, bytes, alike}

-- the packet repeats counter, start bit and payload of the one before it, which is not itself read as a double
abbrev pub IsDouble : Option (List ℕ) → List ℕ → Type 0
IsDouble None q = ⊥
IsDouble (Some p) q = alike p q ≡ true

-- After a packet, these ones join to these bytes: each is left out as the double of the one before, or it has no start bit and is read.
abbrev pub Joins : Option (List ℕ) → List (List ℕ) → List ℕ → Type 0
Joins before [] bs = bs ≡ []
Joins before (q ∷ qs) bs = (IsDouble before q × Joins None qs bs) ⊎ ((unit_start q ≡ false) × ((rest : List ℕ) × (bs ≡ bytes q ++ rest) × Joins (Some q) qs rest))

-- a row of packets is the unit: its first packet has the start bit
abbrev pub IsUnit : List (List ℕ) → List ℕ → Type 0
IsUnit [] u = ⊥
IsUnit (p ∷ qs) u = (unit_start p ≡ true) × ((rest : List ℕ) × (u ≡ bytes p ++ rest) × Joins (Some p) qs rest)

-- the packets fall into rows, one for each unit, in order
abbrev pub CarriesUnits : List (List ℕ) → List (List ℕ) → Type 0
CarriesUnits ps [] = ps ≡ []
CarriesUnits ps (u ∷ us) = (row : List (List ℕ)) × (left : List (List ℕ)) × (ps ≡ row ++ left) × IsUnit row u × CarriesUnits left us
