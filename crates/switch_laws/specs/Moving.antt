-- What a switch does to the packets behind the head, in order, and what of the advertisements goes out in all.
use Rattle.std.specs.Prelude.{ℕ, ◌∷◌, ◌++◌, List, [], ◌&&◌, Option, None, Some, map, find, length}
use Rattle.std.specs.Ordering.{int_eq}
use Rattle.unit_stream.specs.Times.{begins_one}
use Rattle.event_table.specs.Standing.{Standing}
use Rattle.splice_laws.specs.Splicing.{PlayedEvent, SliceUnit, stream}
use Rattle.output_laws.specs.Output.{Move}
use Rattle.splice_plans.specs.Playing.{Adverts, History, is_played, played, as_played, end_known, sent_known, left_at_end}
use Rattle.splice_plans.specs.Switching.{puts_before, puts_at_end, fate}

-- at packets behind a past: before each what is put in, and then the packet, kept or left out; and what is put in at the end
abbrev pub moves_from : List ℕ → Adverts → History → List (List ℕ) → List (List ℕ) → List Move
moves_from switched ads events past [] = puts_at_end switched ads events past
moves_from switched ads events past (p ∷ ps) = puts_before switched ads events p past ++ (fate switched ads events p past ∷ moves_from switched ads events (p ∷ past) ps)

-- THE MOVES OF A RUN
abbrev pub run_moves : List ℕ → Adverts → History → List (List ℕ) → List Move
run_moves switched ads events ps = moves_from switched ads events [] ps

-- the played ones of some events as intervals, in order of their starts
abbrev pub intervals : Adverts → List Standing → List PlayedEvent
intervals ads es = map as_played (played ads es)

-- the played one of some events that starts when this interval does
abbrev pub meant_by : Adverts → List Standing → PlayedEvent → Option Standing
meant_by ads es x = find (λ e. int_eq e.start x.start && is_played ads e) es

abbrev pub units_for : Adverts → ℕ → Option Standing → List SliceUnit
units_for ads pid None = []
units_for ads pid (Some e) = ads.units e pid

-- WHAT GOES OUT OF AN EVENT on a PID in a run, which is given newest packet first: what is out behind its last packet, and the rest
abbrev pub sent_in_all : List ℕ → Adverts → History → List (List ℕ) → ℕ → PlayedEvent → List SliceUnit
sent_in_all switched ads events past pid x =
    sent_known (begins_one switched) (stream switched pid) x (end_known ads events x.start) (units_for ads pid (meant_by ads (events past) x)) past
    ++ left_at_end (begins_one switched) (stream switched pid) x (end_known ads events x.start) (units_for ads pid (meant_by ads (events past) x)) past

-- how much of that is out behind a past
abbrev pub sent_count : List ℕ → Adverts → History → List (List ℕ) → ℕ → PlayedEvent → List (List ℕ) → ℕ
sent_count switched ads events whole pid x past =
    length (sent_known (begins_one switched) (stream switched pid) x (end_known ads events x.start) (units_for ads pid (meant_by ads (events whole) x)) past)
