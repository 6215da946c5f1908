-- What a cue of the injector's tells the switch: each is read back by its bytes, and taken as meant for its event.
use Rattle.std.specs.Prelude.{◌≡◌, ◌^◌, false, ℤ, pos, ◌+ℤ◌, ◌≤ℤ◌, ◌<ℤ◌, List, Option, Some}
use Rattle.scte35_codec.specs.Spelling.{cue_bytes, Fits}
use Rattle.scte35_codec.specs.Reading.{cue_of}
use Rattle.event_table.specs.Standing.{Standing, end_of}
use Rattle.armed_events.specs.Asking.{asked_of}
use Rattle.armed_events.specs.Arming.{change, start_change, end_change, cancel_change}
use Rattle.injector.specs.Senders.{Sender, start_cue, end_cue, cancel_cue}

-- the event as it was first asked for
abbrev pub first_asked : Standing → Standing
first_asked e = record { id = e.id; start = e.start; length = e.asked; asked = e.asked; program = e.program; cancelled = false }

-- a time in [-2^32, 2^32) of the greatest one, as the ring tells it
pub record IsClose (h time : ℤ) : Type 0 where
  pub low : h ≤ℤ (time +ℤ pos (2 ^ 32))
  pub top : time <ℤ (h +ℤ pos (2 ^ 32))

-- A START is taken as the start of its event, with the time on the line that the injector has, however often the ring has turned
abbrev pub StartTells : Type 0
StartTells = (h : ℤ) (x : Sender) → Fits (start_cue x) → IsClose h x.event.start → (standing : List Standing) →
    change (Some h) standing (asked_of (cue_of (cue_bytes (start_cue x)))) ≡ start_change (Some h) standing (first_asked x.event)

-- AN END is taken as the early end of its event at the time that the injector has
abbrev pub EndTells : Type 0
EndTells = (h : ℤ) (x : Sender) → Fits (end_cue x) → IsClose h (end_of x.event) → (standing : List Standing) →
    change (Some h) standing (asked_of (cue_of (cue_bytes (end_cue x)))) ≡ end_change (Some h) standing x.event.id (end_of x.event)

-- A CANCEL is taken as the cancel of its event
abbrev pub CancelTells : Type 0
CancelTells = (latest : Option ℤ) (x : Sender) → Fits (cancel_cue x) → (standing : List Standing) →
    change latest standing (asked_of (cue_of (cue_bytes (cancel_cue x)))) ≡ cancel_change latest standing x.event.id
