-- What the counter of a switched stream counts (ISO/IEC 13818-1, 2.4.3.3, continuity_counter), and what goes out in the place of packets.
use Rattle.std.specs.Prelude.{ℕ, [], ◌∷◌, List, Bool, if◌then◌else◌, is_some}
use Rattle.ts_packet.specs.Fields.{payload, pcr, pid_of, renumbered}
use Rattle.ts_packet.specs.Numbering.{Step, Kept, Dropped, moved, number_out}
use Rattle.output_laws.specs.Output.{clock_alone}

-- a payload packet is left out: a duplicate is not counted
abbrev pub left_steps : Bool → List ℕ → List Step → List Step
left_steps is_repeat p steps = if is_repeat then steps else Dropped p ∷ steps

-- behind a packet of a unit that is left out: one without payload stays
abbrev pub steps_behind : Bool → List ℕ → List Step → List Step
steps_behind is_repeat p steps = if is_some (payload p) then left_steps is_repeat p steps else Kept p ∷ steps

-- what goes out in its place: its clock reference alone, where it has one
abbrev pub left_place : Bool → List ℕ → List Step → List (List ℕ)
left_place is_repeat p steps =
    if is_some (payload p) then clock_alone (pid_of p) (number_out p (left_steps is_repeat p steps)) (pcr p) else renumbered (moved steps) p ∷ []
