-- A switch by what its counters have counted: what goes out is as in a network whose packets all go through it (Switching), but the counters may stand
-- behind any steps, as where packets of the switched streams went out beside it.
use Rattle.std.specs.Prelude.{ℕ, List, [], ◌∷◌, if◌then◌else◌, Some}
use Rattle.ts_packet.specs.Fields.{on, on_one, pid_of, marked, renumbered}
use Rattle.ts_packet.specs.Runs.{onto}
use Rattle.ts_packet.specs.Numbering.{Kept, moved}
use Rattle.psi_tables.specs.Cue.{without_cue_entry}
use Rattle.program_laws.specs.Writing.{Writing, block}
use Rattle.output_laws.specs.Output.{counter_steps}
use Rattle.splice_plans.specs.Counters.{PidSteps, counted_at, out_by, counted_after, out_behind}
use Rattle.splice_plans.specs.Switching.{Setting, puts_at_end, switched_at, history_at, is_behind_head, switched_past}
use Rattle.splice_plans.specs.Known.{adverts_at, behind_at, moves_at, puts_at, fate_at}

-- where all packets went through the switch
abbrev pub steps_at : Setting → List (List ℕ) → PidSteps
steps_at k past pid = counter_steps k.packed pid (moves_at k past)

-- with a packet more that is kept
abbrev pub steps_kept : List ℕ → PidSteps → PidSteps
steps_kept p steps pid = if on pid p then Kept p ∷ steps pid else steps pid

module _ (k : Setting) (steps : PidSteps) where
  -- once all is out that goes out before a packet
  abbrev pub counted_before : List ℕ → List (List ℕ) → PidSteps
  counted_before p past = counted_after k.packed steps (puts_at k p past)

  abbrev pub front_by : List ℕ → List (List ℕ) → List (List ℕ)
  front_by p past = if is_behind_head k past then out_behind k.packed steps (puts_at k p past) else []

  abbrev pub place_by : List ℕ → List (List ℕ) → List (List ℕ)
  place_by p past = if on k.cue_pid p then []
      else (if on_one (switched_at k past) p then out_by k.packed (fate_at k p past) (behind_at k past) (counted_before p past) else p ∷ [])

  abbrev pub switching_by : Writing
  switching_by = record { change = without_cue_entry k.cue_pid; front = front_by; place = place_by }

  -- WHAT GOES OUT for one packet, in order, where the counters of sections go on from these packets
  abbrev pub block_by : List ℕ → List (List ℕ) → List (List ℕ) → List (List ℕ)
  block_by p past out = block switching_by (Some k.program) p past out

  -- and then the counters have counted this; nothing in the head of the network
  abbrev pub counted_next : List ℕ → List (List ℕ) → PidSteps
  counted_next p past = if is_behind_head k past then counted_at k.packed (fate_at k p past) (behind_at k past) (counted_before p past) else (λ pid. [])

  -- what goes out at the end
  abbrev pub rest_by : List (List ℕ) → List (List ℕ)
  rest_by past = if is_behind_head k past
      then out_behind k.packed steps (puts_at_end (switched_at k past) (adverts_at k past) (history_at k past) (behind_at k past))
      else []

  -- ---- a packet beside the switch, which reads it as one that is marked in error

  -- it goes out as it came; on the PID of a switched stream with the counter of a packet that is kept
  abbrev pub beside_by : List ℕ → List (List ℕ) → List ℕ
  beside_by p past = if on_one (switched_at k past) p then renumbered (moved (steps (pid_of p))) p else p

-- ---- how far a switch has come

-- the packets as it has read them, and those that it has put for those that went through it, newest first; and the steps of the counters
pub record Journey : Type 0 where
  pub read : List (List ℕ)
  pub counted : PidSteps
  pub put : List (List ℕ)

abbrev pub no_journey : Journey
no_journey = record { read = []; counted = λ pid. []; put = [] }

-- with a packet more that is counted as one that is kept
abbrev pub journey_kept : Journey → List ℕ → Journey
journey_kept x p = record { read = x.read; counted = steps_kept p x.counted; put = x.put }

-- where all packets went through it
abbrev pub journey_at : Setting → List (List ℕ) → Journey
journey_at k past = record { read = past; counted = steps_at k past; put = switched_past k past }

module _ (k : Setting) (x : Journey) where
  -- WHAT GOES OUT for the next packet, in order, which goes through it, and how far it has come then
  abbrev pub puts_next : List ℕ → List (List ℕ)
  puts_next p = block_by k x.counted p x.read x.put

  abbrev pub journey_next : List ℕ → Journey
  journey_next p = record { read = p ∷ x.read; counted = counted_next k x.counted p x.read; put = onto x.put (puts_next p) }

  -- a packet that it reads, and for which it puts nothing
  abbrev pub journey_past : List ℕ → Journey
  journey_past p = record { read = p ∷ x.read; counted = counted_next k x.counted p x.read; put = x.put }

  -- WHAT GOES OUT for one that goes out beside it, and how far it has come then: on the PID of a switched stream the packet is counted as one that is
  -- kept, and on others it goes through as it is read
  abbrev pub puts_beside : List ℕ → List ℕ
  puts_beside p = beside_by k x.counted p x.read

  abbrev pub journey_beside : List ℕ → Journey
  journey_beside p = if on_one (switched_at k x.read) p
      then record { read = marked p ∷ x.read; counted = steps_kept p x.counted; put = x.put }
      else journey_next (marked p)

  -- what goes out at the end
  abbrev pub puts_last : List (List ℕ)
  puts_last = rest_by k x.counted x.read
