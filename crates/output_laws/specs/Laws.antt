-- What holds of every output of a splice, over the definitions alone.
use Rattle.std.specs.Prelude.{◌≡◌, ℕ, ◌++◌, ◌∷◌, List, [], true, Option, None, map, filter, reverse, length, All}
use Rattle.ts_packet.specs.Fields.{payload_on, number}
use Rattle.ts_packet.specs.Runs.{IsGaplessAfter}
use Rattle.unit_stream.specs.Units.{units, payloads, lead_in}
use Rattle.unit_stream.specs.Carrying.{CarriesUnits}
use Rattle.splice_laws.specs.Splicing.{SliceUnit}
use Rattle.output_laws.specs.Output.{Move, Keep, Put, network, Packing, output, Sound, KeepsUnitsWhole, HasComeBefore, AlongMoves, units_out}

-- the moves are sound, and whole units of the PID are kept or left out
pub record AreSoundMoves (packed : Packing) (pid : ℕ) (moves : List Move) : Type 0 where
  pub sound : AlongMoves (λ (s : Move) (past : List Move). Sound packed s) (reverse moves)
  pub whole : AlongMoves (KeepsUnitsWhole pid) (reverse moves)

-- GAPLESS IT WAS, GAPLESS IT IS, where the PID has a payload packet before its first unit put in
abbrev pub OutputStaysGapless : Type 0
OutputStaysGapless = (packed : Packing) (pid : ℕ) (before : Option (List ℕ)) (moves : List Move) → AreSoundMoves packed pid moves → AlongMoves (HasComeBefore pid) (reverse moves) →
    IsGaplessAfter before pid (network moves) → IsGaplessAfter before pid (output packed moves)

-- THE LAW ON UNITS: then the units read off the output are those kept and those put in, in order
abbrev pub OutputHasUnits : Type 0
OutputHasUnits = (packed : Packing) (pid : ℕ) (before : Option (List ℕ)) (switched : List ℕ) (moves : List Move) → AreSoundMoves packed pid moves → AlongMoves (HasComeBefore pid) (reverse moves) →
    IsGaplessAfter before pid (network moves) → payloads (units switched pid (output packed moves)) ≡ units_out pid [] moves

-- THE LAW ON WHAT IS CARRIED: on any network, the PID's payload packets in the output are those before its first unit start, unchanged,
-- and then packets that carry the units kept and those put in, in order
abbrev pub OutputCarriesUnits : Type 0
OutputCarriesUnits = (packed : Packing) (pid : ℕ) (moves : List Move) → AreSoundMoves packed pid moves → All (λ (p : List ℕ). length p ≡ 188) (network moves) →
    (carried : List (List ℕ)) × (filter (payload_on pid) (output packed moves) ≡ lead_in pid (network moves) ++ carried)
    × CarriesUnits carried (units_out pid [] moves)

-- with nothing put in and nothing left out every packet goes out as it came
abbrev pub AllKeptIsUnchanged : Type 0
AllKeptIsUnchanged = (packed : Packing) (ps : List (List ℕ)) → All (λ (p : List ℕ). length p ≡ 188) ps → output packed (map (λ (p : List ℕ). Keep p) ps) ≡ ps

-- The first law needs its premise: where one packet is put in before the first payload packet of the PID, its counter is 0, and nothing
-- says what comes next.
abbrev pub FedIsNeeded : Type 0
FedIsNeeded = (packed : Packing) (pid : ℕ) (u : SliceUnit) (p q : List ℕ) → packed pid u 0 ≡ q ∷ [] → payload_on pid q ≡ true → number q ≡ 0 → payload_on pid p ≡ true → number p ≡ 5 →
    IsGaplessAfter None pid (network (Put pid u ∷ Keep p ∷ [])) × (IsGaplessAfter None pid (output packed (Put pid u ∷ Keep p ∷ [])) → ⊥)
