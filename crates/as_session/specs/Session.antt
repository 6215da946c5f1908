-- What a session stands for, and what it gives.
use Rattle.std.specs.Prelude.{◌≡◌, ◌<◌, ◌≤◌, ℕ, List, length, take, if◌then◌else◌}
use Rattle.scte104_codec.specs.declared.framing.Frame.TheVariants.{Whole}
use Rattle.scte104_codec.specs.Framing.{frame_of}
use Rattle.as_session.specs.declared.session.Session.{Session}
use Rattle.as_session.specs.declared.session.Got.{Got}
use Rattle.as_session.specs.declared.session.Got.TheVariants as got
use Rattle.as_session.specs.declared.session.Step.{Step}
use Rattle.as_session.specs.declared.session.Step.TheVariants as step
use Rattle.as_session.specs.Feeding.{State, opened, shut, Given, nothing, message, tells_shut, feed_of}

abbrev pub state_of : {A : Type 0} → Session A → State
state_of s = if s.is_closed then shut else opened s.pending.items

-- a session that was fed a piece is left as the piece leaves it
abbrev pub IsFed : {A : Type 0} → Session A → List ℕ → Session A → Type 0
IsFed old piece new = state_of new ≡ (feed_of (state_of old) piece).after

abbrev pub given : Got → Given
given got.None = nothing
given (got.Message m) = message m.now
given got.Closed = tells_shut

-- what a step gives, whose message lies in the session
abbrev pub step_given : {A : Type 0} → Session A → Step → Given
step_given s step.Nothing = nothing
step_given s (step.Message size) = message (take size s.message.items)
step_given s step.Closed = tells_shut

-- a message of a step lies in the session, and used some of the piece
abbrev pub MessageFits : ℕ → Step → Type 0
MessageFits used step.Nothing = Unit {0}
MessageFits used (step.Message size) = (size ≤ 65535) × (0 < used)
MessageFits used step.Closed = Unit {0}

-- a message that is lent is whole, so that it can be read, and used some of the piece
abbrev pub LendsWhole : ℕ → Got → Type 0
LendsWhole used got.None = Unit {0}
LendsWhole used (got.Message m) = (0 < used) × (frame_of m.now ≡ Whole (length m.now))
LendsWhole used got.Closed = Unit {0}
