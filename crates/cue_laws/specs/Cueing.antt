-- What the injector sends: its events with what was told of each, and the stream of cues of a run of accepted requests.
use Rattle.std.specs.Prelude.{◌≡◌, Bool, true, false, not, ◌&&◌, if◌then◌else◌, List, [], ◌∷◌, map, ℤ, pos, ◌+ℤ◌, int_le, int_lt, Option, None, Some}
use Rattle.ts_packet.specs.Membership.{In}
use Rattle.cue_laws.specs.Events.{Turn, Started, Cancelled, Ended, Passed, LineEvent, high, before, events, can_start, can_cancel, can_end, fresh, cancel_by, end_by}
use Rattle.unit_stream.specs.Clocks.{Rises}

-- the request may be accepted behind these turns
abbrev pub MayBeAccepted : Turn → List Turn → Type 0
MayBeAccepted (Started id start end) past = can_start (high past) id start end (events past) ≡ true
MayBeAccepted (Cancelled id) past = (e : LineEvent) × In e (events past) × (can_cancel (high past) id e ≡ true)
MayBeAccepted (Ended id time) past = (e : LineEvent) × In e (events past) × (can_end (high past) id time e ≡ true)
MayBeAccepted (Passed h) past = Rises (high past) h

-- A RUN: all its requests are accepted
abbrev pub IsRun : List Turn → Type 0
IsRun [] = Unit {0}
IsRun (s ∷ past) = MayBeAccepted s past × IsRun past

-- what was told of an event: nothing yet; its start, and it was so then; nothing but that it is cancelled
pub data Told : Type 0 where
  Untold : Told
  Known : LineEvent → Told
  Never : Told

-- an event of the injector's, what was told of it, and the greatest time behind the packet that its last cue came before
pub record Sender : Type 0 where
  pub event : LineEvent
  pub told : Told
  pub last : Option ℤ

-- a cancel that was not told
abbrev pub is_cancel_new : LineEvent → LineEvent → Bool
is_cancel_new e t = e.cancelled && not t.cancelled

abbrev pub or_else : Bool → Bool → Bool
or_else true b = true
or_else false b = b

abbrev pub is_news : LineEvent → LineEvent → Bool
is_news e t = or_else (int_lt e.end t.end) (is_cancel_new e t)

-- the cue that is repeated
abbrev pub current : LineEvent → Turn
current e = if e.cancelled then Cancelled e.id else (if int_lt e.end e.asked then Ended e.id e.end else Started e.id e.start e.asked)

-- and the time below which it is
abbrev pub limit : LineEvent → ℤ
limit e = if e.cancelled then e.start else (if int_lt e.end e.asked then e.end else e.start)

-- the greatest time rises by a second, from behind the last sending to behind this packet
abbrev pub is_second : Option ℤ → Option ℤ → Bool
is_second None later = false
is_second (Some last) None = false
is_second (Some last) (Some later) = int_le (last +ℤ pos 90000) later

abbrev pub is_due : Option ℤ → Option ℤ → LineEvent → Option ℤ → Bool
is_due h later e last = before h (limit e) && is_second last later

-- cues in front of what was sent before
abbrev pub end_on : LineEvent → ℤ → List Turn → List Turn
end_on e told rest = if int_lt e.end told then Ended e.id e.end ∷ rest else rest

abbrev pub cancel_on : LineEvent → LineEvent → List Turn → List Turn
cancel_on e t rest = if is_cancel_new e t then Cancelled e.id ∷ rest else rest

abbrev pub repeat_on : Option ℤ → Option ℤ → LineEvent → Option ℤ → List Turn → List Turn
repeat_on h later e last rest = if is_due h later e last then current e ∷ rest else rest

-- One event's cues before a packet that lifts the greatest time from h to `later`: what is new as start, end, cancel, else its current cue
-- where that is due. A start that is cancelled before its first sending sends the cancel alone; of several ends the last goes out.
abbrev pub told_on : Option ℤ → Option ℤ → LineEvent → Option ℤ → Told → List Turn → List Turn
told_on h later e last Untold rest = if e.cancelled then Cancelled e.id ∷ rest else end_on e e.asked (Started e.id e.start e.asked ∷ rest)
told_on h later e last (Known t) rest = if is_news e t then cancel_on e t (end_on e t.end rest) else repeat_on h later e last rest
told_on h later e last Never rest = repeat_on h later e last rest

-- all events' cues before a packet, in order of acceptance
abbrev pub block_on : Option ℤ → Option ℤ → List Sender → List Turn → List Turn
block_on h later [] rest = rest
block_on h later (x ∷ older) rest = told_on h later x.event x.last x.told (block_on h later older rest)

-- what is told then
abbrev pub told_now : LineEvent → Told → Told
told_now e Untold = if e.cancelled then Never else Known e
told_now e (Known t) = Known e
told_now e Never = Never

abbrev pub is_sent : Option ℤ → Option ℤ → LineEvent → Option ℤ → Told → Bool
is_sent h later e last Untold = true
is_sent h later e last (Known t) = or_else (is_news e t) (is_due h later e last)
is_sent h later e last Never = is_due h later e last

abbrev pub tell : Option ℤ → Option ℤ → Sender → Sender
tell h later x = record { event = x.event; told = told_now x.event x.told; last = (if is_sent h later x.event x.last x.told then later else x.last) }

abbrev pub change : (LineEvent → LineEvent) → Sender → Sender
change f x = record { event = f x.event; told = x.told; last = x.last }

-- the injector's events with what was told of them
abbrev pub senders : List Turn → List Sender
senders [] = []
senders (Started id start end ∷ past) = record { event = fresh id start end; told = Untold; last = None } ∷ senders past
senders (Cancelled id ∷ past) = map (change (cancel_by (high past) id)) (senders past)
senders (Ended id time ∷ past) = map (change (end_by (high past) id time)) (senders past)
senders (Passed later ∷ past) = map (tell (high past) later) (senders past)

-- THE CUE PATH of a run: before each packet the cues that are due
abbrev pub cue_turns : List Turn → List Turn
cue_turns [] = []
cue_turns (Started id start end ∷ past) = cue_turns past
cue_turns (Cancelled id ∷ past) = cue_turns past
cue_turns (Ended id time ∷ past) = cue_turns past
cue_turns (Passed later ∷ past) = Passed later ∷ block_on (high past) later (senders past) (cue_turns past)
