use Rattle.std.proofs.Common.{◌≡◌, ◌-◌, List, ◌++◌, length, ℕ}
use Rattle.injector.specs.Turns.{Turn, greatest_in}
use Rattle.injector.specs.Requests.{RequestsStandFor}
use Rattle.injector.specs.Senders.{Sender, standing_senders, IsIdle}
use Rattle.injector.specs.Noting.{NotesStandFor, Sending, Rests}
use Rattle.injector.proofs.requests.Requests.rest.Given as goal

-- the cues of some events are not repeated before the time so far, and the others are left
abbrev pub invariant-loop-place : goal.invariant-loop-place
invariant-loop-place l =
    (index : ℕ) (past : List Turn) → RequestsStandFor l.self index past → NotesStandFor l.self index past → IsIdle index (greatest_in past) past →
    (done : List Sender) × (left : List Sender) × (standing_senders index past ≡ done ++ left) × (l.place ≡ length done)
    × Sending l.self (greatest_in past) (greatest_in past) done left × Rests l.rest (greatest_in past) done

abbrev pub decreases-loop-place : goal.decreases-loop-place
decreases-loop-place l = length l.self.table.entries.items - l.place
