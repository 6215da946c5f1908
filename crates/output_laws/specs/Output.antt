-- What goes out of a splice, as packets: each network packet kept or left out, each slice unit put in, with their counters.
use Rattle.std.specs.Prelude.{◌≡◌, ℕ, ◌<◌, ◌==◌, ◌++◌, ◌∷◌, List, [], Bool, true, false, ◌||◌, if◌then◌else◌, Option, None, Some, filter}
use Rattle.ts_packet.specs.Fields.{in_error, pid_of, payload_on, pcr, bytes, renumbered}
use Rattle.ts_packet.specs.Numbering.{Step, moved, number_out, one_past, last_number}
use Rattle.ts_packet.specs.Clock.{clock_packet}
use Rattle.ts_packet.specs.Runs.{seen_after}
use Rattle.unit_stream.specs.Times.{begins}
use Rattle.unit_stream.specs.Fates.{steps_after}
use Rattle.unit_stream.specs.Units.{is_original, rest_of_unit}
use Rattle.unit_stream.specs.UnitPackets.{IsPacked, put_in}
use Rattle.splice_laws.specs.Splicing.{SliceUnit}
use Rattle.splice_laws.specs.Streams.{Act, Through, Insert}

-- a packet of the network is kept, or is left out, or a slice unit is put in on a PID
pub data Move : Type 0 where
  Keep : List ℕ → Move
  Leave : List ℕ → Move
  Put : ℕ → SliceUnit → Move

-- the acts of the splice law: those that leave out are none
abbrev pub acts : List Move → List Act
acts [] = []
acts (Keep p ∷ moves) = Through p ∷ acts moves
acts (Leave p ∷ moves) = acts moves
acts (Put pid u ∷ moves) = Insert pid u ∷ acts moves

-- the network's packets, in the order of the moves
abbrev pub network : List Move → List (List ℕ)
network [] = []
network (Keep p ∷ moves) = p ∷ network moves
network (Leave p ∷ moves) = p ∷ network moves
network (Put pid u ∷ moves) = network moves

-- the packets of a slice unit on a PID, where the first has this counter
abbrev pub Packing : Type 0
Packing = ℕ → SliceUnit → ℕ → List (List ℕ)

-- WHAT HAPPENED ON THE PID, newest first, as the counters see it; the moves are newest first too
abbrev pub counter_steps : Packing → ℕ → List Move → List Step
counter_steps packed pid [] = []
counter_steps packed pid (Keep p ∷ past) = steps_after false pid p (network past) (counter_steps packed pid past)
counter_steps packed pid (Leave p ∷ past) = steps_after true pid p (network past) (counter_steps packed pid past)
counter_steps packed pid (Put q u ∷ past) = if q == pid then put_in (packed q u (one_past (last_number (counter_steps packed pid past)))) (counter_steps packed pid past) else counter_steps packed pid past

-- a network packet on its way out: with the counter `number_out`; one marked in error as it is
abbrev pub kept_packet : Packing → List ℕ → List Move → List ℕ
kept_packet packed p past = if in_error p then p else renumbered (moved (counter_steps packed (pid_of p) past)) p

-- its clock reference alone, where it has one
abbrev pub clock_alone : ℕ → ℕ → Option (List ℕ) → List (List ℕ)
clock_alone pid n None = []
clock_alone pid n (Some clock) = clock_packet pid n clock ∷ []

-- WHAT GOES OUT AT A MOVE, behind others
abbrev pub out_at : Packing → Move → List Move → List (List ℕ)
out_at packed (Keep p) past = kept_packet packed p past ∷ []
out_at packed (Leave p) past = clock_alone (pid_of p) (number_out p (counter_steps packed (pid_of p) (Leave p ∷ past))) (pcr p)
out_at packed (Put pid u) past = packed pid u (one_past (last_number (counter_steps packed pid past)))

abbrev pub out_after : Packing → List Move → List Move → List (List ℕ)
out_after packed past [] = []
out_after packed past (s ∷ ss) = out_at packed s past ++ out_after packed (s ∷ past) ss

-- THE OUTPUT OF A RUN of moves in order
abbrev pub output : Packing → List Move → List (List ℕ)
output packed moves = out_after packed [] moves

-- the unit of a move is packed, whatever the first counter; the PID of a packet left out is one of 13 bits
abbrev pub Sound : Packing → Move → Type 0
Sound packed (Keep p) = Unit {0}
Sound packed (Leave p) = pid_of p < 8192
Sound packed (Put pid u) = (n : ℕ) → n < 16 → IsPacked pid u.payload n (packed pid u n)

-- ---- whole units

-- what became of the PID's last payload packet: it was kept (also before the first), or left out; or a unit was put in behind one kept
pub data Place : Type 0 where
  Keeping : Place
  Leaving : Place
  Between : Place

abbrev pub behind_put : Place → Place
behind_put Keeping = Between
behind_put Leaving = Leaving
behind_put Between = Between

abbrev pub place : ℕ → List Move → Place
place pid [] = Keeping
place pid (Keep p ∷ past) = if payload_on pid p then Keeping else place pid past
place pid (Leave p ∷ past) = if payload_on pid p then Leaving else place pid past
place pid (Put q u ∷ past) = if q == pid then behind_put (place pid past) else place pid past

-- A packet that begins no unit shares the fate of the payload packet before it, and nothing is put in between two that are kept.
abbrev pub KeepsUnitsWhole : ℕ → Move → List Move → Type 0
KeepsUnitsWhole pid (Keep p) past = payload_on pid p ≡ true → begins pid p (network past) ≡ false → place pid past ≡ Keeping
KeepsUnitsWhole pid (Leave p) past = payload_on pid p ≡ true → begins pid p (network past) ≡ false → place pid past ≡ Leaving
KeepsUnitsWhole pid (Put q u) past = Unit {0}

-- some payload packet of the PID has come
abbrev pub has_come : ℕ → List (List ℕ) → Bool
has_come pid [] = false
has_come pid (p ∷ past) = payload_on pid p || has_come pid past

-- a unit is put in on the PID only behind a payload packet of it
abbrev pub HasComeBefore : ℕ → Move → List Move → Type 0
HasComeBefore pid (Keep p) past = Unit {0}
HasComeBefore pid (Leave p) past = Unit {0}
HasComeBefore pid (Put q u) past = (q == pid) ≡ true → has_come pid (network past) ≡ true

-- of moves, newest first: each is so, behind those before it
abbrev pub AlongMoves : (Move → List Move → Type 0) → List Move → Type 0
AlongMoves f [] = Unit {0}
AlongMoves f (s ∷ past) = f s past × AlongMoves f past

-- ---- the units that go out, in order: those of the network that are kept, and those put in

abbrev pub units_out : ℕ → List Move → List Move → List (List ℕ)
units_out pid past [] = []
units_out pid past (Keep p ∷ ss) = if begins pid p (network past)
    then (bytes p ++ rest_of_unit (filter (is_original pid) (seen_after (p ∷ network past) (network ss)))) ∷ units_out pid (Keep p ∷ past) ss
    else units_out pid (Keep p ∷ past) ss
units_out pid past (Leave p ∷ ss) = units_out pid (Leave p ∷ past) ss
units_out pid past (Put q u ∷ ss) = if q == pid then u.payload ∷ units_out pid (Put q u ∷ past) ss else units_out pid (Put q u ∷ past) ss
