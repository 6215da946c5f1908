-- What becomes of a packet where units of some streams go, and what the counters count of that (ISO/IEC 13818-1, 2.4.3.3,
-- continuity_counter). Whether a unit goes is any test on its stream and its time; it goes with all its packets and their duplicates.
use Rattle.std.specs.Prelude.{ℕ, ℤ, List, [], ◌∷◌, Bool, false, ◌&&◌, ◌||◌, if◌then◌else◌, Option}
use Rattle.ts_packet.specs.Fields.{on, payload_on, renumbered}
use Rattle.ts_packet.specs.Duplicates.{original}
use Rattle.ts_packet.specs.Numbering.{Step, Kept, Dropped, moved}
use Rattle.unit_stream.specs.Times.{unit_time}

-- a packet of a unit of this stream that goes, or its duplicate
abbrev pub is_cut : (Option ℤ → Bool) → List ℕ → ℕ → List ℕ → List (List ℕ) → Bool
is_cut goes switched pid p past = payload_on pid p && goes (unit_time switched pid (p ∷ past))

-- THE DECISION, for any streams: `goes` tests a PID and a time
abbrev pub is_left_out : (ℕ → Option ℤ → Bool) → List ℕ → List ℕ → List (List ℕ) → List ℕ → Bool
is_left_out goes switched p past [] = false
is_left_out goes switched p past (pid ∷ pids) = is_cut (goes pid) switched pid p past || is_left_out goes switched p past pids

-- the steps of a PID's counter, newest first, after a packet that is left out, or kept: a duplicate that is left out is none
abbrev pub steps_after : Bool → ℕ → List ℕ → List (List ℕ) → List Step → List Step
steps_after out pid p past steps = if out then (if original pid p past then Dropped p ∷ steps else steps) else (if on pid p then Kept p ∷ steps else steps)

-- THE COUNT, where units of one stream go and nothing is put in
abbrev pub steps : (Option ℤ → Bool) → List ℕ → ℕ → List (List ℕ) → List Step
steps goes switched pid [] = []
steps goes switched pid (p ∷ past) = steps_after (is_cut goes switched pid p past) pid p past (steps goes switched pid past)

-- a packet that is kept, behind these steps on the PID: one of the PID has the counter `number_out`
abbrev pub numbered : ℕ → List ℕ → List Step → List ℕ
numbered pid p steps = if on pid p then renumbered (moved steps) p else p
