-- The table that code keeps: only the events that stand.
use Rattle.std.specs.Prelude.{◌≡◌, Bool, not, if◌then◌else◌, List, [], ◌∷◌, filter, int_lt}
use Rattle.cue_laws.specs.Events.{Turn, LineEvent, high, stands, taken, events, NeverFalls}

-- the events that stand, newest first; what is forgotten is left out at each turn
abbrev pub standing : List Turn → List LineEvent
standing [] = []
standing (s ∷ past) = filter (stands (high (s ∷ past))) (taken (high past) s (standing past))

-- in order of their starts
abbrev pub put_by_start : LineEvent → List LineEvent → List LineEvent
put_by_start x [] = x ∷ []
put_by_start x (e ∷ es) = if int_lt x.start e.start then x ∷ e ∷ es else e ∷ put_by_start x es

abbrev pub by_start : List LineEvent → List LineEvent
by_start [] = []
by_start (e ∷ es) = put_by_start e (by_start es)

abbrev pub is_uncancelled : LineEvent → Bool
is_uncancelled e = not e.cancelled

-- the events that are not cancelled, in order of their starts
abbrev pub uncancelled_events : List LineEvent → List LineEvent
uncancelled_events es = by_start (filter is_uncancelled es)

-- a table that forgets judges as one that does not
abbrev pub ForgettingIsSafe : Type 0
ForgettingIsSafe = (all : List Turn) → NeverFalls all → standing all ≡ filter (stands (high all)) (events all)
