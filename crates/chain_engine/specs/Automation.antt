-- What an automation tells of itself: what its takes gave and the answers that it was given, in their order, and how many of them failed.
use Rattle.std.specs.Prelude.{◌≡◌, ℕ, ◌≤◌, Bool, true, false, List, [], ◌∷◌, ◌++◌, take, map}
use Rattle.std.specs.List.{flat_map}
use Rattle.ts_packet.specs.Transfers.{IsCounted}
use Rattle.chain_engine.specs.declared.automation.Taken.{Taken}
use Rattle.chain_engine.specs.declared.automation.Taken.TheVariants.{Bytes, Nothing, Ended, Failed}

-- what one take gave: these bytes, none where there was nothing; or the end, or a failure
pub data Take : Type 0 where
  piece : List ℕ → Take
  ended : Take
  failed : Take

-- a reply, and whether the automation has it
pub record Answer : Type 0 where
  pub reply : List ℕ
  pub is_given : Bool

-- one exchange with an automation: what a take gave, or an answer
pub data Exchange : Type 0 where
  taken : Take → Exchange
  answered : Answer → Exchange

-- so many takes, and then these answers
abbrev pub takes_and_answers : List Take → List Answer → List Exchange
takes_and_answers takes answers = map taken takes ++ map answered answers

-- the takes of exchanges, in order, and the answers
abbrev pub takes_in : List Exchange → List Take
takes_in [] = []
takes_in (taken take ∷ more) = take ∷ takes_in more
takes_in (answered answer ∷ more) = takes_in more

abbrev pub answers_in : List Exchange → List Answer
answers_in [] = []
answers_in (taken take ∷ more) = answers_in more
answers_in (answered answer ∷ more) = answer ∷ answers_in more

abbrev pub take_of : Taken → List ℕ → Take
take_of (Bytes n) room = piece (take n room)
take_of Nothing room = piece []
take_of Ended room = ended
take_of Failed room = failed

abbrev pub answer_of : List ℕ → Bool → Answer
answer_of reply is_given = record { reply = reply; is_given = is_given }

-- the bytes lie in the room
abbrev pub IsRoomFor : ℕ → Taken → Type 0
IsRoomFor room (Bytes n) = n ≤ room
IsRoomFor room Nothing = Unit {0}
IsRoomFor room Ended = Unit {0}
IsRoomFor room Failed = Unit {0}

-- a failure is counted, and nothing else is
abbrev pub CountsTake : Taken → ℕ → ℕ → Type 0
CountsTake (Bytes n) old new = new ≡ old
CountsTake Nothing old new = new ≡ old
CountsTake Ended old new = new ≡ old
CountsTake Failed old new = IsCounted old new

abbrev pub CountsAnswer : Bool → ℕ → ℕ → Type 0
CountsAnswer true old new = new ≡ old
CountsAnswer false old new = IsCounted old new

-- the bytes of a take
abbrev pub bytes_in : Take → List ℕ
bytes_in (piece bs) = bs
bytes_in ended = []
bytes_in failed = []

-- those of takes, one after another
abbrev pub bytes_of : List Take → List ℕ
bytes_of takes = flat_map bytes_in takes
