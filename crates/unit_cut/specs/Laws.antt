-- What holds of every cut, over the definitions alone.
use Rattle.std.specs.Prelude.{◌≡◌, ℕ, ℤ, ◌+◌, ◌%◌, ◌++◌, ◌∷◌, List, [], Bool, true, false, Option, None, filter, length, All}
use Rattle.ts_packet.specs.Fields.{payload_on, unit_start, number, bytes, renumbered}
use Rattle.ts_packet.specs.Runs.{IsGapless, IsGaplessAfter, others, uncounted}
use Rattle.unit_stream.specs.Times.{unit_time}
use Rattle.unit_stream.specs.Units.{units, payloads, rows, lead_in}
use Rattle.unit_stream.specs.Carrying.{CarriesUnits}
use Rattle.unit_cut.specs.Cutting.{cut, staying, packets_staying}

-- THE LAW ON UNITS: where the PID is gapless, its units in what the cut leaves are the units that stay, in order, whichever streams the output is read with
abbrev pub CutLeavesUnits : Type 0
CutLeavesUnits = (goes : Option ℤ → Bool) (switched switched' : List ℕ) (pid : ℕ) (ps : List (List ℕ)) → IsGapless pid ps →
    payloads (units switched' pid (cut goes switched pid ps)) ≡ payloads (staying goes (units switched pid ps))

-- THE LAW ON WHAT IS CARRIED: gapless or not, the PID's payload packets in what the cut leaves of whole packets are those before the
-- first unit start, unchanged, and then packets that carry the units that stay, in order
abbrev pub CutCarriesUnits : Type 0
CutCarriesUnits = (goes : Option ℤ → Bool) → goes None ≡ false → (switched : List ℕ) (pid : ℕ) (ps : List (List ℕ)) →
    All (λ (p : List ℕ). length p ≡ 188) ps →
    (carried : List (List ℕ)) × (filter (payload_on pid) (cut goes switched pid ps) ≡ lead_in pid ps ++ carried)
    × CarriesUnits carried (payloads (staying goes (units switched pid ps)))

-- gapless or not, its payload packets are, but for their counters, those before the first unit start and the rows that stay
abbrev pub CutLeavesRows : Type 0
CutLeavesRows = (goes : Option ℤ → Bool) → goes None ≡ false → (switched : List ℕ) (pid : ℕ) (ps : List (List ℕ)) →
    uncounted (filter (payload_on pid) (cut goes switched pid ps)) ≡ uncounted (lead_in pid ps ++ packets_staying goes (rows switched pid ps))

-- gapless it was, gapless it is, whatever the last payload packet of the head
abbrev pub CutStaysGapless : Type 0
CutStaysGapless = (before : Option (List ℕ)) (goes : Option ℤ → Bool) (switched : List ℕ) (pid : ℕ) (ps : List (List ℕ)) →
    IsGaplessAfter before pid ps → IsGaplessAfter before pid (cut goes switched pid ps)

-- the packets of all other PIDs, and those marked in error, are the same list, byte for byte
abbrev pub CutLeavesOthers : Type 0
CutLeavesOthers = (goes : Option ℤ → Bool) (switched : List ℕ) (pid : ℕ) (ps : List (List ℕ)) → others pid (cut goes switched pid ps) ≡ others pid ps

-- what a cut leaves of a front of the run is a front of what it leaves of the run
abbrev pub CutGrows : Type 0
CutGrows = (goes : Option ℤ → Bool) (switched : List ℕ) (pid : ℕ) (ps qs : List (List ℕ)) →
    (more : List (List ℕ)) × (cut goes switched pid (ps ++ qs) ≡ cut goes switched pid ps ++ more)

-- The law on units needs its premise: let two units of one packet begin, of which the second goes, and let the first come again with the
-- second one's counter, one too low. Both of its units stay, and once the second is gone the two packets are one and its duplicate.
abbrev pub GaplessIsNeeded : Type 0
GaplessIsNeeded = (goes : Option ℤ → Bool) (switched switched' : List ℕ) (pid : ℕ) (p q : List ℕ) →
    payload_on pid p ≡ true → unit_start p ≡ true → payload_on pid q ≡ true → unit_start q ≡ true → number q ≡ (number p + 1) % 16 →
    goes (unit_time switched pid (p ∷ [])) ≡ false → goes (unit_time switched pid (q ∷ p ∷ [])) ≡ true → goes (unit_time switched pid (renumbered 1 p ∷ q ∷ p ∷ [])) ≡ false →
    (payloads (units switched' pid (cut goes switched pid (p ∷ q ∷ renumbered 1 p ∷ []))) ≡ bytes p ∷ [])
    × (payloads (staying goes (units switched pid (p ∷ q ∷ renumbered 1 p ∷ []))) ≡ bytes p ∷ bytes p ∷ [])
