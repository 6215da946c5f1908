-- SEVERAL SERVICES, ONE AUTOMATION: whose a message is, and how it is answered, by the history of all messages judged and packets passed,
-- newest first.
use Rattle.std.specs.Prelude.{ℕ, ◌==◌, Bool, true, false, not, ◌||◌, ◌&&◌, if◌then◌else◌, List, [], ◌∷◌, Err}
use Rattle.std.specs.List.{list_any}
use Rattle.psi_tables.specs.declared.config.Config.{Config}
use Rattle.scte104_codec.specs.Reading.{MessageReading, Multiple, init, alive, other, multiple, bad}
use Rattle.scte104_codec.specs.declared.reply.Reply.{Reply}
use Rattle.injector.specs.declared.refusal.Refusal.{Refusal}
use Rattle.injector.specs.declared.refusal.Refusal.TheVariants.{WrongVersion, WrongIndex}
use Rattle.injector.specs.Replies.{reply_to, alive_reply_of, reply_with, verdict_reply_of, bad_reply_of}
use Rattle.injector.specs.Steps.{Step, Message, Packet, turns_in}

-- A multiple_operation_message with this DPI_PID_index (ANSI/SCTE 104, multiple_operation_message), also where it breaks the syntax behind it.
abbrev pub is_for : ℕ → MessageReading → Bool
is_for index (init head) = false
is_for index (alive head body) = false
is_for index (other head) = false
is_for index (multiple m) = m.head.index == index
is_for index (bad true head) = head.index == index
is_for index (bad false head) = false

-- THE HISTORY OF A SERVICE: the messages with its index, and all packets
abbrev pub own_steps : ℕ → List Step → List Step
own_steps index [] = []
own_steps index (Message m ∷ past) = if is_for index m then Message m ∷ own_steps index past else own_steps index past
own_steps index (Packet p ∷ past) = Packet p ∷ own_steps index past

-- ---- answers

-- a multiple operation with the index of no service: a version that is not 0 is told first
abbrev pub refusal_of_none : Multiple → Refusal
refusal_of_none m = if not (m.version == 0) || not (m.cue_version == 0) then WrongVersion else WrongIndex

-- the reply to a message that is for no service, which no history changes
abbrev pub reply_of_none : MessageReading → Reply
reply_of_none (init head) = reply_with 0x0002 100 head []
reply_of_none (alive head body) = alive_reply_of head body
reply_of_none (other head) = reply_with 0x0000 0x8005 head []
reply_of_none (multiple m) = verdict_reply_of m.head (Err (refusal_of_none m))
reply_of_none (bad multi head) = bad_reply_of multi head

-- THE REPLY to a message: the one by the history of the service that it is for
abbrev pub reply_among : List Config → MessageReading → List Step → Reply
reply_among [] m past = reply_of_none m
reply_among (c ∷ more) m past =
    if is_for c.index m then reply_to c.index m (turns_in c.program (own_steps c.index past)) else reply_among more m past

-- ---- counts, by the replies

-- an inject_response of success, and one of a refusal
abbrev pub accepts : Reply → Bool
accepts r = (r.op == 0x0007) && (r.result == 100)

abbrev pub refuses : Reply → Bool
refuses r = (r.op == 0x0007) && not (r.result == 100)

-- two of them have the same DPI_PID_index
abbrev pub share_an_index : List Config → Bool
share_an_index [] = false
share_an_index (c ∷ more) = list_any (λ (d : Config). c.index == d.index) more || share_an_index more
