-- The laws of the cue path.
use Rattle.std.specs.Prelude.{◌≡◌, ◌↔◌, ℕ, List, ◌∷◌, ◌++◌, ℤ, Option, false}
use Rattle.event_table.specs.Standing.{Standing}
use Rattle.cue_laws.specs.Events.{Turn as LineTurn, before}
use Rattle.cue_laws.specs.Cueing.{IsRun, cue_turns}
use Rattle.cue_laws.specs.Laws.{KeepsEnoughOf}
use Rattle.injector.specs.Turns.{Turn, Passed, events}
use Rattle.ts_packet.specs.Membership.{In}
use Rattle.path_laws.specs.Path.{path, line, left, armed_on, asked_line, IsSteadyHistory}

-- THE REQUESTS ARE A RUN: each that an injector accepts may be accepted by the definitions on the line
abbrev pub RequestsAreARun : Type 0
RequestsAreARun = (index : ℕ) (past : List Turn) → IsSteadyHistory index past → IsRun (asked_line index past)

-- THE CUES TELL THE LINE: read at the greatest time, the ring times of an injector's cues are the times that its requests asked for,
-- and the cues those that its accepted requests make due, through any number of turns of the ring
abbrev pub CuesTellTheLine : Type 0
CuesTellTheLine = (index : ℕ) (past : List Turn) → IsSteadyHistory index past → line (path index past) ≡ cue_turns (asked_line index past)

-- THE CUE PATH: behind each packet, an uncancelled event whose start is reached is armed by what is left of an injector's cues exactly
-- where the injector accepted it, with the same id, start, length in force, length first asked for and program, whatever cues were
-- lost or doubled, through any number of turns of the ring
abbrev pub CuePathOfEvents : Type 0
CuePathOfEvents = (index : ℕ) (copies : List LineTurn → ℕ) (h last : Option ℤ) (past later : List Turn) →
    IsSteadyHistory index (Passed last ∷ (later ++ Passed h ∷ past)) → KeepsEnoughOf copies (asked_line index (Passed last ∷ (later ++ Passed h ∷ past))) →
    (e : Standing) → e.cancelled ≡ false → before h e.start ≡ false →
    In e (armed_on (left copies (path index (Passed h ∷ past)))) ↔ In e (events index (Passed h ∷ past))

-- and behind the last packet it is so for all uncancelled events
abbrev pub CuePathOfEventsAtTheEnd : Type 0
CuePathOfEventsAtTheEnd = (index : ℕ) (copies : List LineTurn → ℕ) (h : Option ℤ) (past : List Turn) →
    IsSteadyHistory index (Passed h ∷ past) → KeepsEnoughOf copies (asked_line index (Passed h ∷ past)) →
    (e : Standing) → e.cancelled ≡ false →
    In e (armed_on (left copies (path index (Passed h ∷ past)))) ↔ In e (events index (Passed h ∷ past))
