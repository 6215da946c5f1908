-- The reply to each message (ANSI/SCTE 104, single_operation_message): the opID of a response, 100 for success or the number of a refusal, and
-- the head of the request. The numbers of refusals are this project's own.
use Rattle.std.specs.Prelude.{ℕ, Bool, true, false, nat_lt, if◌then◌else◌, List, [], ◌∷◌, length, Result, Ok, Err}
use Rattle.scte104_codec.specs.declared.head.Head.{Head}
use Rattle.scte104_codec.specs.declared.reply.Reply.{Reply}
use Rattle.scte104_codec.specs.Reading.{MessageReading, init, alive, other, multiple, bad}
use Rattle.injector.specs.declared.refusal.Refusal.{Refusal}
use Rattle.injector.specs.Verdicts.{number_of}
use Rattle.injector.specs.Turns.{Turn, verdict}

abbrev pub reply_with : ℕ → ℕ → Head → List ℕ → Reply
reply_with op number head body = record { op = op; result = number; head = head; tail = record { items = body } }

-- alive_response with the data of the request, at most 8 bytes
abbrev pub alive_reply_of : Head → List ℕ → Reply
alive_reply_of head body =
    if nat_lt 8 (length body) then reply_with 0x0004 0x8001 head [] else reply_with 0x0004 100 head body

-- inject_response with message_number, or alive_response without data
abbrev pub bad_reply_of : Bool → Head → Reply
bad_reply_of true head = reply_with 0x0007 0x8001 head (head.number ∷ [])
bad_reply_of false head = reply_with 0x0004 0x8001 head []

abbrev pub result_of : Result (Unit {0}) Refusal → ℕ
result_of (Ok u) = 100
result_of (Err e) = number_of e

-- inject_response with message_number
abbrev pub verdict_reply_of : Head → Result (Unit {0}) Refusal → Reply
verdict_reply_of head verdict = reply_with 0x0007 (result_of verdict) head (head.number ∷ [])

-- THE REPLY: init_response, alive_response, general_response to any other single operation, inject_response to a multiple operation
abbrev pub reply_to : ℕ → MessageReading → List Turn → Reply
reply_to index (init head) past = reply_with 0x0002 100 head []
reply_to index (alive head body) past = alive_reply_of head body
reply_to index (other head) past = reply_with 0x0000 0x8005 head []
reply_to index (multiple m) past = verdict_reply_of m.head (verdict index m past)
reply_to index (bad multi head) past = bad_reply_of multi head
