-- The laws, over the definitions alone.
use Rattle.std.specs.Prelude.{◌≡◌, ◌↔◌, ◌⊎◌, ℕ, true, false, List, ◌∷◌, ℤ, Option, pos, ◌+ℤ◌}
use Rattle.ts_packet.specs.Membership.{In}
use Rattle.cue_laws.specs.Events.{Turn, Started, Passed, LineEvent, high, before, events, NeverFalls, holders, upon}
use Rattle.cue_laws.specs.Thinning.{MayAllCome, thinned, IsThinned, KeepsEnough, KeepsStart, KeepsCancel, KeepsEnds, LeavesOutRepeats}
use Rattle.cue_laws.specs.Cueing.{IsRun, cue_turns}
use Rattle.cue_laws.specs.Tables.{standing, uncancelled_events}

-- SETTLEMENT: of a time that the greatest one has reached, whatever comes later does not change which uncancelled events hold it
abbrev pub Settlement : Type 0
Settlement = (past later : List Turn) (time : ℤ) → NeverFalls (upon later past) → before (high past) time ≡ false →
    holders time (events (upon later past)) ≡ holders time (events past)

-- LOST CUES, at every front: the uncancelled events whose start is reached are the same, in all fields, with cues lost as without
abbrev pub LostCues : Type 0
LostCues = (copies : List Turn → ℕ) (front later : List Turn) → MayAllCome (upon later front) → KeepsEnough copies (upon later front) →
    (x : LineEvent) → x.cancelled ≡ false → before (high front) x.start ≡ false → In x (events (thinned copies front)) ↔ In x (events front)

-- and at the end all uncancelled events are
abbrev pub LostCuesAtTheEnd : Type 0
LostCuesAtTheEnd = (copies : List Turn → ℕ) (all : List Turn) → MayAllCome all → KeepsEnough copies all →
    (x : LineEvent) → x.cancelled ≡ false → In x (events (thinned copies all)) ↔ In x (events all)

-- THE PREMISE OF THINNING, in the injector's words: each event never cancelled keeps a start cue, each cancelled one a cancel cue or none of
-- its start cues, and the first sending of each early end is kept
pub record KeepsEnoughOf (copies : List Turn → ℕ) (run : List Turn) : Type 0 where
  pub starts : (x : LineEvent) → In x (events run) → x.cancelled ≡ false → KeepsStart copies x (cue_turns run)
  pub cancels : (x : LineEvent) → In x (events run) → x.cancelled ≡ true → KeepsCancel copies x (cue_turns run) ⊎ (KeepsStart copies x (cue_turns run) → ⊥)
  pub ends : KeepsEnds copies (cue_turns run)

-- WITH NOTHING LOST: every cue of a run may come, so a splicer refuses none
abbrev pub CuedIsSound : Type 0
CuedIsSound = (run : List Turn) → IsRun run → MayAllCome (cue_turns run)

-- THE CUE PATH: behind each packet of a run, the uncancelled events whose start is reached are the same on both sides, in all fields,
-- whatever cues were lost
abbrev pub CuePath : Type 0
CuePath = (copies : List Turn → ℕ) (h : Option ℤ) (past later : List Turn) (last : Option ℤ) →
    IsRun (Passed last ∷ upon later (Passed h ∷ past)) → KeepsEnoughOf copies (Passed last ∷ upon later (Passed h ∷ past)) →
    (x : LineEvent) → x.cancelled ≡ false → before h x.start ≡ false →
    In x (events (thinned copies (cue_turns (Passed h ∷ past)))) ↔ In x (events (Passed h ∷ past))

-- and behind the last packet all uncancelled events are
abbrev pub CuePathAtTheEnd : Type 0
CuePathAtTheEnd = (copies : List Turn → ℕ) (h : Option ℤ) (past : List Turn) → IsRun (Passed h ∷ past) → KeepsEnoughOf copies (Passed h ∷ past) →
    (x : LineEvent) → x.cancelled ≡ false → In x (events (thinned copies (cue_turns (Passed h ∷ past)))) ↔ In x (events (Passed h ∷ past))

-- so of each time that is reached, behind each packet, the same events hold it on both sides
abbrev pub CuePathHolders : Type 0
CuePathHolders = (copies : List Turn → ℕ) (h : Option ℤ) (past later : List Turn) (last : Option ℤ) →
    IsRun (Passed last ∷ upon later (Passed h ∷ past)) → KeepsEnoughOf copies (Passed last ∷ upon later (Passed h ∷ past)) →
    (time : ℤ) → before h time ≡ false → holders time (events (thinned copies (cue_turns (Passed h ∷ past)))) ≡ holders time (events (Passed h ∷ past))

-- the premise of thinning asks for no more than there is: all cues are enough, in every run
abbrev pub NothingLostIsEnough : Type 0
NothingLostIsEnough = (h : Option ℤ) (past : List Turn) → IsRun (Passed h ∷ past) → KeepsEnoughOf (λ s. 1) (Passed h ∷ past)

-- REPEATS LOSE NOTHING: a choice that keeps enough of a run's cues still does where it leaves out more that is told again
abbrev pub RepeatsLoseNothing : Type 0
RepeatsLoseNothing = (copies given : List Turn → ℕ) (run : List Turn) → IsRun run → LeavesOutRepeats copies given (cue_turns run) →
    KeepsEnoughOf copies run → KeepsEnoughOf given run

-- every thinned stream is one that some choice leaves, and none else is
abbrev pub ThinnedIsChosen : Type 0
ThinnedIsChosen = (all left : List Turn) → IsThinned all left ↔ ((copies : List Turn → ℕ) × (thinned copies all ≡ left))

-- what went over the cue path stays: a front of the run sends a front
abbrev pub CuedGrows : Type 0
CuedGrows = (front later : List Turn) → (more : List Turn) × (cue_turns (upon later front) ≡ upon more (cue_turns front))

-- the same event; where it is cancelled in the one list, it is in the other
pub record IsPartOf (a t : LineEvent) : Type 0 where
  pub id : a.id ≡ t.id
  pub start : a.start ≡ t.start
  pub asked : a.asked ≡ t.asked
  pub end : a.end ≡ t.end
  pub cancelled : a.cancelled ≡ true → t.cancelled ≡ true

-- THE INVARIANT, behind each packet: each event of the splicer's is one of the injector's. Of what is lost only the ends count.
abbrev pub Invariant : Type 0
Invariant = (copies : List Turn → ℕ) (h : Option ℤ) (past : List Turn) → IsRun (Passed h ∷ past) → KeepsEnds copies (cue_turns (Passed h ∷ past)) →
    (a : LineEvent) → In a (events (thinned copies (cue_turns (Passed h ∷ past)))) → (t : LineEvent) × In t (events (Passed h ∷ past)) × IsPartOf a t

-- so no start cue is refused: of each that is left the splicer has the event
abbrev pub NoStartRefused : Type 0
NoStartRefused = (copies : List Turn → ℕ) (run : List Turn) → IsRun run → KeepsEnds copies (cue_turns run) →
    (id : ℕ) (start end : ℤ) → In (Started id start end) (thinned copies (cue_turns run)) →
    (e : LineEvent) × In e (events (thinned copies (cue_turns run))) × (e.start ≡ start)

-- THE TABLE IS JUDGED BY THE WHOLE RUN: behind each packet, the table of a splicer that lost cues and forgets what is ten seconds past
-- answers for each time reached, not ten seconds back, what the injector's list answers at the end of the run
abbrev pub TableIsJudged : Type 0
TableIsJudged = (copies : List Turn → ℕ) (h : Option ℤ) (past later : List Turn) (last : Option ℤ) →
    IsRun (Passed last ∷ upon later (Passed h ∷ past)) → KeepsEnoughOf copies (Passed last ∷ upon later (Passed h ∷ past)) →
    (time : ℤ) → before h time ≡ false → before h (time +ℤ pos 900000) ≡ true →
    holders time (standing (thinned copies (cue_turns (Passed h ∷ past)))) ≡ holders time (events (Passed last ∷ upon later (Passed h ∷ past)))

-- THE UNCANCELLED EVENTS AGREE: behind the last packet, the two lists are one
abbrev pub UncancelledEventsAgree : Type 0
UncancelledEventsAgree = (copies : List Turn → ℕ) (h : Option ℤ) (past : List Turn) → IsRun (Passed h ∷ past) → KeepsEnoughOf copies (Passed h ∷ past) →
    uncancelled_events (events (thinned copies (cue_turns (Passed h ∷ past)))) ≡ uncancelled_events (events (Passed h ∷ past))
