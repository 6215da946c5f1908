-- THE SWITCH: what goes out for each packet of a network with cues, by the packets that came before, newest first.
use Rattle.std.specs.Prelude.{ℕ, ◌∷◌, ◌++◌, List, [], Bool, if◌then◌else◌, is_some, Option, Some, ℤ, length, drop, reverse, map, flat_map}
use Rattle.ts_packet.specs.Fields.{on, on_one}
use Rattle.unit_stream.specs.Times.{begins_one, high}
use Rattle.unit_stream.specs.Fates.{is_left_out}
use Rattle.event_table.specs.Standing.{Standing}
use Rattle.armed_events.specs.Arming.{armed}
use Rattle.psi_tables.specs.Cue.{without_cue_entry}
use Rattle.program_follower.specs.Program.{program_of, behind_head, pids_of}
use Rattle.program_follower.specs.Following.{streams_of_program}
use Rattle.psi_tables.specs.declared.stream.Stream.{Stream}
use Rattle.program_laws.specs.Writing.{Writing, written, block}
use Rattle.splice_laws.specs.Splicing.{SliceUnit, stream}
use Rattle.output_laws.specs.Output.{Move, Keep, Leave, Put, Packing, out_at, out_after}
use Rattle.splice_plans.specs.Playing.{Adverts, History, played, as_played, end_known, is_inside, closing_at, running_at, left_at_end}

-- ---- behind the head

-- for each PID what a rule gives for each of these events, in order
abbrev pub puts_by : List ℕ → List Standing → (ℕ → Standing → List SliceUnit) → List Move
puts_by pids es rule = flat_map (λ (pid : ℕ). map (λ (u : SliceUnit). Put pid u) (flat_map (rule pid) es)) pids

module _ (switched : List ℕ) (ads : Adverts) (events : History) where
  -- Before a packet go out the rest of an event that it closes and whole events that it passes, in order of start, and then of the events
  -- that run on what has come due, by stream.
  abbrev pub puts_before : List ℕ → List (List ℕ) → List Move
  puts_before p past =
      puts_by switched (played ads (events (p ∷ past))) (λ pid e. closing_at (begins_one switched) (stream switched pid) (as_played e) (end_known ads events e.start) (ads.units e pid) p past)
      ++ puts_by switched (played ads (events (p ∷ past))) (λ pid e. running_at (begins_one switched) (stream switched pid) (as_played e) (end_known ads events e.start) (ads.units e pid) p past)

  -- at the end, what is left of those that run
  abbrev pub puts_at_end : List (List ℕ) → List Move
  puts_at_end past = puts_by switched (played ads (events past)) (λ pid e. left_at_end (begins_one switched) (stream switched pid) (as_played e) (end_known ads events e.start) (ads.units e pid) past)

  -- the packet itself is left out where its unit lies in a played event
  abbrev pub fate : List ℕ → List (List ℕ) → Move
  fate p past = if is_left_out (λ pid time. is_inside ads (events (p ∷ past)) time) switched p past switched then Leave p else Keep p

  -- all that was done, newest first
  abbrev pub moves : List (List ℕ) → List Move
  moves [] = []
  moves (p ∷ past) = fate p past ∷ (reverse (puts_before p past) ++ moves past)

  -- the packets put in before a packet; and what goes out in its place: itself with another counter, its clock reference alone, or nothing
  abbrev pub front_of : Packing → List ℕ → List (List ℕ) → List (List ℕ)
  front_of packed p past = out_after packed (moves past) (puts_before p past)

  abbrev pub place_of : Packing → List ℕ → List (List ℕ) → List (List ℕ)
  place_of packed p past = out_at packed (fate p past) (reverse (puts_before p past) ++ moves past)

  abbrev pub end_of_run : Packing → List (List ℕ) → List (List ℕ)
  end_of_run packed past = out_after packed (moves past) (puts_at_end past)

-- ---- the whole network

-- what a switch is told: its program, the PID of its cues, the advertisements for the switched streams, and how a unit is packed
pub record Setting : Type 0 where
  pub program : ℕ
  pub cue_pid : ℕ
  pub adverts : List Stream → Adverts
  pub packed : Packing

-- the PIDs of the switched streams, in the order of the PMT; none before the head's end
abbrev pub switched_at : Setting → List (List ℕ) → List ℕ
switched_at k past = pids_of (program_of (Some k.program) past)

-- these streams
abbrev pub streams_at : Setting → List (List ℕ) → List Stream
streams_at k past = streams_of_program (program_of (Some k.program) past)

-- the greatest time of a unit
abbrev pub high_at : Setting → List (List ℕ) → Option ℤ
high_at k past = high (switched_at k past) (behind_head (Some k.program) past)

-- THE EVENTS that the cues so far have armed
abbrev pub events_at : Setting → List (List ℕ) → List Standing
events_at k past = armed k.cue_pid (high_at k) past

-- the head of a past, and the events by the packets behind it
abbrev pub head_at : Setting → List (List ℕ) → List (List ℕ)
head_at k past = drop (length (behind_head (Some k.program) past)) past

abbrev pub history_at : Setting → List (List ℕ) → History
history_at k past = λ behind. events_at k (behind ++ head_at k past)

abbrev pub is_behind_head : Setting → List (List ℕ) → Bool
is_behind_head k past = is_some (program_of (Some k.program) past)

abbrev pub front_at : Setting → List ℕ → List (List ℕ) → List (List ℕ)
front_at k p past = if is_behind_head k past
    then front_of (switched_at k past) (k.adverts (streams_at k past)) (history_at k past) k.packed p (behind_head (Some k.program) past)
    else []

-- a packet of the cue PID is left out, one of a switched stream is switched, and all others pass
abbrev pub place_at : Setting → List ℕ → List (List ℕ) → List (List ℕ)
place_at k p past = if on k.cue_pid p then []
    else (if on_one (switched_at k past) p
    then place_of (switched_at k past) (k.adverts (streams_at k past)) (history_at k past) k.packed p (behind_head (Some k.program) past)
    else p ∷ [])

-- On the PMT's PID the sections go out in the place of the packets that finish them, the program's maps without the entry for the cues.
abbrev pub switching : Setting → Writing
switching k = record { change = without_cue_entry k.cue_pid; front = front_at k; place = place_at k }

-- WHAT IS OUT behind a past, newest first
abbrev pub switched_past : Setting → List (List ℕ) → List (List ℕ)
switched_past k past = written (switching k) (Some k.program) past

-- what goes out for one packet, in order
abbrev pub switched_at_packet : Setting → List ℕ → List (List ℕ) → List (List ℕ)
switched_at_packet k p past = block (switching k) (Some k.program) p past (switched_past k past)

-- what goes out at the end
abbrev pub rest_at : Setting → List (List ℕ) → List (List ℕ)
rest_at k past = if is_behind_head k past
    then end_of_run (switched_at k past) (k.adverts (streams_at k past)) (history_at k past) k.packed (behind_head (Some k.program) past)
    else []

-- THE OUTPUT of a whole network, in order
abbrev pub spliced_network : Setting → List (List ℕ) → List (List ℕ)
spliced_network k network = reverse (switched_past k (reverse network)) ++ rest_at k (reverse network)
