-- What goes out of a splice by what the counters have counted, whatever brought them there: move by move as in a run of moves.
use Rattle.std.specs.Prelude.{ℕ, ◌==◌, ◌++◌, ◌∷◌, List, [], true, false, if◌then◌else◌}
use Rattle.ts_packet.specs.Fields.{in_error, pid_of, pcr, renumbered}
use Rattle.ts_packet.specs.Numbering.{Step, moved, number_out, one_past, last_number}
use Rattle.unit_stream.specs.Fates.{steps_after}
use Rattle.unit_stream.specs.UnitPackets.{put_in}
use Rattle.output_laws.specs.Output.{Move, Keep, Leave, Put, Packing, clock_alone}

-- the steps of each PID's counter, newest first
abbrev pub PidSteps : Type 0
PidSteps = ℕ → List Step

-- THE STEPS behind a move, where these packets were read before it
abbrev pub counted_at : Packing → Move → List (List ℕ) → PidSteps → ℕ → List Step
counted_at packed (Keep p) read steps pid = steps_after false pid p read (steps pid)
counted_at packed (Leave p) read steps pid = steps_after true pid p read (steps pid)
counted_at packed (Put q u) read steps pid = if q == pid then put_in (packed q u (one_past (last_number (steps pid)))) (steps pid) else steps pid

-- WHAT GOES OUT at it
abbrev pub out_by : Packing → Move → List (List ℕ) → PidSteps → List (List ℕ)
out_by packed (Keep p) read steps = (if in_error p then p else renumbered (moved (steps (pid_of p))) p) ∷ []
out_by packed (Leave p) read steps = clock_alone (pid_of p) (number_out p (steps_after true (pid_of p) p read (steps (pid_of p)))) (pcr p)
out_by packed (Put pid u) read steps = packed pid u (one_past (last_number (steps pid)))

-- at units that are put in, for which it does not matter what was read
abbrev pub counted_after : Packing → PidSteps → List Move → PidSteps
counted_after packed steps [] = steps
counted_after packed steps (m ∷ ms) = counted_after packed (counted_at packed m [] steps) ms

abbrev pub out_behind : Packing → PidSteps → List Move → List (List ℕ)
out_behind packed steps [] = []
out_behind packed steps (m ∷ ms) = out_by packed m [] steps ++ out_behind packed (counted_at packed m [] steps) ms
