-- The talk with an automation: which takes were made, which messages stand in them, and before which packet each is
-- judged.
use Rattle.std.specs.Prelude.{◌≡◌, ℕ, suc, ◌<◌, ◌≤◌, Bool, true, false, List, [], ◌∷◌, ◌++◌, Option, None, Some, length}
use Rattle.std.specs.Prelude.{take, drop, reverse}
use Rattle.std.specs.List.{list_all}
use Rattle.ts_packet.specs.Transfers.{IsCounted}
use Rattle.wire_fields.specs.Numbers.{AreBytes}
use Rattle.scte104_codec.specs.Framing.{frame_of}
use Rattle.scte104_codec.specs.declared.framing.Frame.TheVariants as frames
use Rattle.as_session.specs.Pending.{is_partial}
use Rattle.as_session.specs.Feeding.{opened}
use Rattle.as_session.specs.Session.{state_of}
use Rattle.as_session.specs.Messages.{messages_of}
use Rattle.chain_engine.specs.Automation.{Take, piece, ended, failed, Answer, Exchange, takes_and_answers, bytes_of}
use Rattle.chain_engine.specs.Hearing.{lost_by}
use Rattle.chain_engine.specs.declared.hearing.SessionEnd.{SessionEnd}
use Rattle.chain_engine.specs.declared.hearing.SessionEnd.TheVariants.{Ended, TakeFailed, BadSize, AnswerFailed}
use Rattle.chain_engine.specs.declared.talk.Talk.{Talk}

abbrev pub is_piece : Take → Bool
is_piece (piece bs) = true
is_piece ended = false
is_piece failed = false

-- THE MESSAGES of all pieces joined
abbrev pub messages_taken : List Take → List (List ℕ)
messages_taken takes = (messages_of (bytes_of takes)).messages

-- those that are judged: so many, where a reply was lost, else all
abbrev pub messages_judged : ℕ → List Take → List (List ℕ)
messages_judged most takes = take most (messages_taken takes)

-- those of them whose last byte stands in the take before packet k, which is judged behind the message
abbrev pub judged_before : ℕ → List Take → ℕ → List (List ℕ)
judged_before most takes k = drop (length (messages_judged most (take k takes))) (messages_judged most (take (suc k) takes))

-- the answers to the messages whose last byte stands in the take behind those before it, newest first
abbrev pub answers_behind : List Answer → Take → List Take → List Answer
answers_behind answers t before =
    drop (length (messages_taken (reverse before))) (take (length (messages_taken (reverse (t ∷ before)))) answers)

-- THE EXCHANGES of these takes, newest first, and of all answers, in their order: behind each take, and before the next one, stand the
-- answers to the messages whose last byte stands in it
abbrev pub exchanges_of : List Answer → List Take → List Exchange
exchanges_of answers [] = []
exchanges_of answers (t ∷ before) = exchanges_of answers before ++ takes_and_answers (t ∷ []) (answers_behind answers t before)

-- the session is open behind these takes: each gave a piece, and behind the messages stands no bad size
pub record IsOpenBehind (takes : List Take) : Type 0 where
  pub pieces : list_all is_piece takes ≡ true
  pub partial : is_partial (messages_of (bytes_of takes)).rest ≡ true

-- The session ended with the last of these takes, behind so many judged messages: by that take; by a bad size in it,
-- behind all messages; or by the reply to a message that ends in it.
abbrev pub EndsBy : SessionEnd → List Take → ℕ → Type 0
EndsBy Ended takes n =
    (ts : List Take) × (takes ≡ ts ++ ended ∷ []) × IsOpenBehind ts × (n ≡ length (messages_taken ts))
EndsBy TakeFailed takes n =
    (ts : List Take) × (takes ≡ ts ++ failed ∷ []) × IsOpenBehind ts × (n ≡ length (messages_taken ts))
EndsBy BadSize takes n =
    (ts : List Take) × (bs : List ℕ) × (takes ≡ ts ++ piece bs ∷ []) × IsOpenBehind ts
    × (n ≡ length (messages_taken takes))
    × (frame_of (messages_of (bytes_of takes)).rest ≡ frames.BadSize)
EndsBy AnswerFailed takes n =
    (ts : List Take) × (bs : List ℕ) × (takes ≡ ts ++ piece bs ∷ []) × IsOpenBehind ts
    × (length (messages_taken ts) < n) × (n ≤ length (messages_taken takes))

-- THE TALK before so many packets: one take for each of them, all messages judged; or up to the session's end
abbrev pub HasTalked : Option SessionEnd → List Take → ℕ → ℕ → Type 0
HasTalked None takes n k = (length takes ≡ k) × IsOpenBehind takes × (n ≡ length (messages_taken takes))
HasTalked (Some end) takes n k = (length takes ≤ k) × EndsBy end takes n

-- a talk stands for this
pub record TalkStandsFor {M : Type 0} (talk : Talk M) (takes : List Take) (n k : ℕ) : Type 0 where
  pub talked : HasTalked talk.end takes n k
  pub pending : talk.end ≡ None → state_of talk.session ≡ opened (messages_of (bytes_of takes)).rest
  pub bytes : AreBytes (bytes_of takes)

-- the session was open, and a reply was lost
abbrev pub loses : Option SessionEnd → Option SessionEnd → Bool
loses None now = lost_by now
loses (Some end) now = false

-- the failure that ended the session is counted
abbrev pub CountsEnd : Option SessionEnd → Option SessionEnd → ℕ → ℕ → Type 0
CountsEnd None None old new = new ≡ old
CountsEnd None (Some Ended) old new = new ≡ old
CountsEnd None (Some TakeFailed) old new = IsCounted old new
CountsEnd None (Some BadSize) old new = new ≡ old
CountsEnd None (Some AnswerFailed) old new = IsCounted old new
CountsEnd (Some end) now old new = new ≡ old
