-- THE EVENTS THAT CUES ARM, on the line of integers, in order of arming: none is ever left out, and one that is forgotten stands no more.
-- All is said by the packets that came before, newest first; `high` says of a past the greatest time of a unit in it.
use Rattle.std.specs.Prelude.{ℕ, ◌+◌, ◌^◌, ◌==◌, nat_le, nat_lt, Bool, not, ◌&&◌, List, [], ◌∷◌, ◌++◌, filter, ℤ, Option, Result, Ok, Err, if◌then◌else◌}
use Rattle.std.specs.List.{list_any}
use Rattle.pes_time.specs.Line.{place}
use Rattle.event_table.specs.Standing.{Standing, on_line, is_ahead_of, repeats, arm_answer, cancel_answer, shorten_answer, with_first, cancelled_one, ending_at, stands, is_of}
use Rattle.event_table.specs.declared.table.Armed.{Armed}
use Rattle.event_table.specs.declared.table.Armed.TheVariants.{New, Same}
use Rattle.event_table.specs.declared.table.ArmRefusal.{ArmRefusal}
use Rattle.event_table.specs.declared.table.CancelRefusal.{CancelRefusal}
use Rattle.event_table.specs.declared.table.ShortenRefusal.{ShortenRefusal}
use Rattle.psi_section.specs.Sections.{given}
use Rattle.scte35_codec.specs.Reading.{cue_of}
use Rattle.armed_events.specs.declared.asked.Asked.{Asked}
use Rattle.armed_events.specs.declared.asked.Asked.TheVariants.{Start, End, Cancel, Unfit, Nothing}
use Rattle.armed_events.specs.Asking.{asked_of}

-- ---- what is taken

-- never armed before: not cancelled, its length the one asked for, of 1 to 2^30 ticks
abbrev pub is_fresh : Standing → Bool
is_fresh e = not e.cancelled && (e.length == e.asked && (nat_lt 0 e.length && nat_le e.length (2 ^ 30)))

-- ---- what one cue changes

-- an event is armed, ended early or cancelled; nothing is to change, as with a repeat; or the cue is ignored
pub data Change : Type 0 where
  Arm : Standing → Change
  Shorten : ℕ → ℤ → Change
  TakeBack : ℕ → Change
  Keep : Change
  Ignore : Change

abbrev pub by_arm_answer : Standing → Result Armed ArmRefusal → Change
by_arm_answer e (Ok New) = Arm e
by_arm_answer e (Ok Same) = Keep
by_arm_answer e (Err refusal) = Ignore

abbrev pub by_shorten_answer : ℕ → ℤ → Result Armed ShortenRefusal → Change
by_shorten_answer id time (Ok New) = Shorten id time
by_shorten_answer id time (Ok Same) = Keep
by_shorten_answer id time (Err refusal) = Ignore

abbrev pub by_cancel_answer : ℕ → Result (Unit {0}) CancelRefusal → Change
by_cancel_answer id (Ok done) = TakeBack id
by_cancel_answer id (Err refusal) = Ignore

-- a repeat of an event that stands changes nothing, however late it comes
abbrev pub start_change : Option ℤ → List Standing → Standing → Change
start_change latest standing e =
    if list_any (repeats e) standing then Keep
    else (if is_fresh e && is_ahead_of latest e.start then by_arm_answer e (arm_answer standing e) else Ignore)

abbrev pub end_change : Option ℤ → List Standing → ℕ → ℤ → Change
end_change latest standing id time = by_shorten_answer id time (shorten_answer latest standing id time)

abbrev pub cancel_change : Option ℤ → List Standing → ℕ → Change
cancel_change latest standing id = by_cancel_answer id (cancel_answer latest standing id)

-- what a cue changes where these events stand
abbrev pub change : Option ℤ → List Standing → Asked → Change
change latest standing (Start e) = start_change latest standing (on_line latest e)
change latest standing (End id time) = end_change latest standing id (place latest time)
change latest standing (Cancel id) = cancel_change latest standing id
change latest standing Unfit = Ignore
change latest standing Nothing = Keep

-- ---- what stands

abbrev pub standing_at : Option ℤ → List Standing → List Standing
standing_at latest events = filter (stands latest) events

-- ---- all events

-- the events after a change
abbrev pub changed : Option ℤ → Change → List Standing → List Standing
changed latest (Arm e) events = events ++ e ∷ []
changed latest (Shorten id time) events = with_first (is_of latest id) (ending_at time) events
changed latest (TakeBack id) events = with_first (is_of latest id) cancelled_one events
changed latest Keep events = events
changed latest Ignore events = events

abbrev pub is_ignored : Change → ℕ
is_ignored (Arm e) = 0
is_ignored (Shorten id time) = 0
is_ignored (TakeBack id) = 0
is_ignored Keep = 0
is_ignored Ignore = 1

-- what cues have come to: the events that they armed, and how many were ignored
pub record Heard : Type 0 where
  pub events : List Standing
  pub ignored : ℕ

abbrev pub with_change : Option ℤ → Change → Heard → Heard
with_change latest c heard = record { events = changed latest c heard.events; ignored = is_ignored c + heard.ignored }

-- after one section more
abbrev pub with_section : Option ℤ → List ℕ → Heard → Heard
with_section latest s heard = with_change latest (change latest (standing_at latest heard.events) (asked_of (cue_of s))) heard

abbrev pub with_sections : Option ℤ → List (List ℕ) → Heard → Heard
with_sections latest [] heard = heard
with_sections latest (s ∷ ss) heard = with_sections latest ss (with_section latest s heard)

-- The cues of a PID are taken as they end, each by the greatest time before its last packet.
abbrev pub heard : ℕ → (List (List ℕ) → Option ℤ) → List (List ℕ) → Heard
heard pid high [] = record { events = []; ignored = 0 }
heard pid high (p ∷ past) = with_sections (high past) (given pid p past) (heard pid high past)

-- THE ARMED EVENTS of a past
abbrev pub armed : ℕ → (List (List ℕ) → Option ℤ) → List (List ℕ) → List Standing
armed pid high past = (heard pid high past).events

-- those of them that stand
abbrev pub standing : ℕ → (List (List ℕ) → Option ℤ) → List (List ℕ) → List Standing
standing pid high past = standing_at (high past) (armed pid high past)

-- how many cues were ignored
abbrev pub ignored : ℕ → (List (List ℕ) → Option ℤ) → List (List ℕ) → ℕ
ignored pid high past = (heard pid high past).ignored
