-- Why the premises of thinning stand there: runs that lack one of them alone.
use Rattle.std.specs.Prelude.{◌≡◌, ℕ, true, false, List, [], ◌∷◌, pos, Some}
use Rattle.ts_packet.specs.Membership.{In}
use Rattle.cue_laws.specs.Events.{Turn, Started, Cancelled, Ended, Passed, LineEvent, events}
use Rattle.cue_laws.specs.Thinning.{thinned, KeepsStart, KeepsCancel, KeepsEnds}
use Rattle.cue_laws.specs.Cueing.{IsRun, cue_turns}

-- An event is sent, ended early, cancelled; then another one is accepted where the first one would have gone on.
abbrev pub ended_then_cancelled : List Turn
ended_then_cancelled =
    Passed (Some (pos 0)) ∷ Started 2 (pos 150) (pos 250) ∷ Passed (Some (pos 0)) ∷ Cancelled 1 ∷ Passed (Some (pos 0)) ∷ Ended 1 (pos 150)
    ∷ Passed (Some (pos 0)) ∷ Started 1 (pos 100) (pos 200) ∷ Passed (Some (pos 0)) ∷ []

abbrev pub second : LineEvent
second = record { id = 2; start = pos 150; asked = pos 250; end = pos 250; cancelled = false }

-- all early ends are lost, and nothing else
abbrev pub without_ends : List Turn → ℕ
without_ends [] = 1
without_ends (Started id start end ∷ past) = 1
without_ends (Cancelled id ∷ past) = 1
without_ends (Ended id time ∷ past) = 0
without_ends (Passed h ∷ past) = 1

-- THE FIRST SENDING OF AN END IS NEEDED, also where the event is cancelled: without it a splicer refuses the next start
abbrev pub EndsAreNeeded : Type 0
EndsAreNeeded = IsRun ended_then_cancelled
    × ((x : LineEvent) → In x (events ended_then_cancelled) → x.cancelled ≡ false → KeepsStart without_ends x (cue_turns ended_then_cancelled))
    × ((x : LineEvent) → In x (events ended_then_cancelled) → x.cancelled ≡ true → KeepsCancel without_ends x (cue_turns ended_then_cancelled))
    × In second (events ended_then_cancelled)
    × (In second (events (thinned without_ends (cue_turns ended_then_cancelled))) → ⊥)

-- An event is sent and cancelled.
abbrev pub started_then_cancelled : List Turn
started_then_cancelled = Passed (Some (pos 0)) ∷ Cancelled 1 ∷ Passed (Some (pos 0)) ∷ Started 1 (pos 100) (pos 200) ∷ Passed (Some (pos 0)) ∷ []

abbrev pub without_cancels : List Turn → ℕ
without_cancels [] = 1
without_cancels (Started id start end ∷ past) = 1
without_cancels (Cancelled id ∷ past) = 0
without_cancels (Ended id time ∷ past) = 1
without_cancels (Passed h ∷ past) = 1

abbrev pub first : LineEvent
first = record { id = 1; start = pos 100; asked = pos 200; end = pos 200; cancelled = false }

-- A CANCEL IS NEEDED where a start is left
abbrev pub CancelsAreNeeded : Type 0
CancelsAreNeeded = IsRun started_then_cancelled
    × ((x : LineEvent) → In x (events started_then_cancelled) → x.cancelled ≡ false → KeepsStart without_cancels x (cue_turns started_then_cancelled))
    × KeepsEnds without_cancels (cue_turns started_then_cancelled)
    × In first (events (thinned without_cancels (cue_turns started_then_cancelled)))
    × (In first (events started_then_cancelled) → ⊥)

-- In one piece an event is asked for, then its early end, then another event where the first one would have gone on.
abbrev pub one_piece : List Turn
one_piece = Passed (Some (pos 0)) ∷ Started 2 (pos 150) (pos 250) ∷ Ended 1 (pos 150) ∷ Started 1 (pos 100) (pos 200) ∷ Passed (Some (pos 0)) ∷ []

-- its cues, but the later event's before the earlier one's
abbrev pub later_first : List Turn
later_first = Passed (Some (pos 0)) ∷ Ended 1 (pos 150) ∷ Started 1 (pos 100) (pos 200) ∷ Started 2 (pos 150) (pos 250) ∷ Passed (Some (pos 0)) ∷ []

abbrev pub shortened : LineEvent
shortened = record { id = 1; start = pos 100; asked = pos 200; end = pos 150; cancelled = false }

-- THE ORDER OF ACCEPTANCE IS NEEDED: in another order a splicer that loses nothing refuses a start
abbrev pub OrderIsNeeded : Type 0
OrderIsNeeded = IsRun one_piece × In shortened (events one_piece) × In shortened (events (cue_turns one_piece)) × (In shortened (events later_first) → ⊥)
