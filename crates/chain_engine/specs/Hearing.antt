-- Pieces of automation bytes, heard: the messages in them (ANSI/SCTE 104), judged and answered.
use Rattle.std.specs.Prelude.{◌≡◌, ℕ, ◌<◌, ◌≤◌, Bool, true, false, not, List, [], ◌∷◌, ◌++◌, Option, None, Some, length}
use Rattle.scte104_codec.specs.declared.reply.Reply.{Reply}
use Rattle.scte104_codec.specs.Reading.{MessageReading}
use Rattle.scte104_codec.specs.Replies.{reply_bytes}
use Rattle.scte104_codec.specs.Framing.{frame_of}
use Rattle.scte104_codec.specs.declared.framing.Frame.TheVariants.{BadSize}
use Rattle.as_session.specs.Feeding.{State, opened, Fed, nothing, message, tells_shut}
use Rattle.as_session.specs.Messages.{messages_of}
use Rattle.chain_engine.specs.Automation.{Answer, answer_of}
use Rattle.chain_engine.specs.Judging.{JudgesAll}
use Rattle.chain_engine.specs.declared.hearing.Heard.{Heard}
use Rattle.chain_engine.specs.declared.hearing.Heard.TheVariants as heard
use Rattle.chain_engine.specs.declared.hearing.SessionEnd.{SessionEnd}
use Rattle.chain_engine.specs.declared.hearing.SessionEnd.TheVariants as end

-- the answers that replies come to: all were given, but for the last where that is lost
abbrev pub answers_to : Bool → List Reply → List Answer
answers_to lost [] = []
answers_to lost (r ∷ []) = answer_of (reply_bytes r) (not lost) ∷ []
answers_to lost (r ∷ s ∷ rs) = answer_of (reply_bytes r) true ∷ answers_to lost (s ∷ rs)

-- These messages were judged in order, which led from the first judge to the second, and the replies given to the
-- automation; the last was lost, or none. `answers` says which answers it was given.
pub record Replied {J : Type 0} (judges : J → MessageReading → Reply → J → Type 0) (j k : J)
    (ms : List (List ℕ)) (rs : List Reply) (lost : Bool) (answers : List Answer → Type 0) : Type 0 where
  pub judged : JudgesAll judges j ms rs k
  pub some : lost ≡ true → 0 < length rs
  pub told : answers (answers_to lost rs)

-- ---- one call of a session

abbrev pub is_unanswered : Heard → Bool
is_unanswered heard.Nothing = false
is_unanswered (heard.Answered used is_given) = not is_given
is_unanswered heard.Closed = false

-- what was heard, of a piece of so many bytes
abbrev pub HeardAs : Fed → ℕ → Heard → Type 0
HeardAs fed size heard.Nothing = fed.gives ≡ nothing
HeardAs fed size (heard.Answered used is_given) =
    (m : List ℕ) × (fed.gives ≡ message m) × (used ≡ fed.used) × (0 < used) × (used ≤ size)
HeardAs fed size heard.Closed = fed.gives ≡ tells_shut

-- ---- one piece

abbrev pub lost_by : Option SessionEnd → Bool
lost_by None = false
lost_by (Some end.Ended) = false
lost_by (Some end.TakeFailed) = false
lost_by (Some end.BadSize) = false
lost_by (Some end.AnswerFailed) = true

-- Behind the bytes of a stream a piece was heard, in which these messages end. They are all, and the session goes on
-- behind the piece; or all before a bad size; or those up to one whose reply was lost.
abbrev pub HearsPiece : List ℕ → List ℕ → List (List ℕ) → State → Option SessionEnd → Type 0
HearsPiece stream piece ms after None =
    ((messages_of (stream ++ piece)).messages ≡ (messages_of stream).messages ++ ms)
    × (after ≡ opened (messages_of (stream ++ piece)).rest)
HearsPiece stream piece ms after (Some end.BadSize) =
    ((messages_of (stream ++ piece)).messages ≡ (messages_of stream).messages ++ ms)
    × (frame_of (messages_of (stream ++ piece)).rest ≡ BadSize)
HearsPiece stream piece ms after (Some end.AnswerFailed) =
    (0 < length ms) × ((more : List (List ℕ))
    × ((messages_of (stream ++ piece)).messages ≡ (messages_of stream).messages ++ (ms ++ more)))
HearsPiece stream piece ms after (Some end.Ended) = ⊥
HearsPiece stream piece ms after (Some end.TakeFailed) = ⊥

-- a piece that was heard ends a session by no other means
abbrev pub CanEnd : Option SessionEnd → Type 0
CanEnd None = Unit {0}
CanEnd (Some end.BadSize) = Unit {0}
CanEnd (Some end.AnswerFailed) = Unit {0}
CanEnd (Some end.Ended) = ⊥
CanEnd (Some end.TakeFailed) = ⊥
