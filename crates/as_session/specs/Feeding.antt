-- What a session does with a piece: it goes by the message at the front of what is pending and the piece.
use Rattle.std.specs.Prelude.{ℕ, ◌-◌, List, [], ◌++◌, length, take}
use Rattle.scte104_codec.specs.declared.framing.Frame.{Frame}
use Rattle.scte104_codec.specs.declared.framing.Frame.TheVariants.{NeedMore, Whole, BadSize}
use Rattle.scte104_codec.specs.Framing.{frame_of}

-- open with these bytes pending, or closed for good
pub data State : Type 0 where
  opened : List ℕ → State
  shut : State

pub data Given : Type 0 where
  nothing : Given
  message : List ℕ → Given
  tells_shut : Given

pub record Fed : Type 0 where
  pub used : ℕ
  pub gives : Given
  pub after : State

abbrev pub fed_by : List ℕ → List ℕ → Frame → Fed
-- the message isn't whole: all is used, and pending
fed_by pending piece (NeedMore n) = record { used = length piece; gives = nothing; after = opened (pending ++ piece) }
-- it is whole: it is used up to its end, and nothing is pending
fed_by pending piece (Whole size) = record { used = size - length pending; gives = message (take size (pending ++ piece)); after = opened [] }
-- its size is bad: the fourth byte closes the session
fed_by pending piece BadSize = record { used = 4 - length pending; gives = tells_shut; after = shut }

abbrev pub feed_of : State → List ℕ → Fed
feed_of (opened pending) piece = fed_by pending piece (frame_of (pending ++ piece))
feed_of shut piece = record { used = 0; gives = tells_shut; after = shut }

-- how many bytes are pending
abbrev pub end_of : State → ℕ
end_of (opened pending) = length pending
end_of shut = 0
