-- Streams of cues: those that a splicer which misses nothing can obey, and what is left of one on the way.
use Rattle.std.specs.Prelude.{◌≡◌, ℕ, ◌<◌, ◌==◌, zero, suc, true, false, ◌⊎◌, List, [], ◌∷◌, length, filter, ℤ, Option, None, Some, is_some}
use Rattle.ts_packet.specs.Membership.{In}
use Rattle.cue_laws.specs.Events.{Turn, Started, Cancelled, Ended, Passed, LineEvent, high, before, events, is_of, can_start, name_of, upon}
use Rattle.unit_stream.specs.Clocks.{Rises}

-- the event is there as it was first asked for
pub record Repeats (id : ℕ) (from to : ℤ) (e : LineEvent) : Type 0 where
  pub same_id : e.id ≡ id
  pub same_start : e.start ≡ from
  pub same_asked : e.asked ≡ to
  pub unshortened : e.end ≡ to
  pub uncancelled : e.cancelled ≡ false

-- Behind these turns the cue may come. A start comes before its event begins, and either may be armed, or repeats an event that is neither
-- cancelled nor shortened. A cancel may come at any time. An early end comes for no cancelled event. The greatest time never falls.
abbrev pub MayCome : Turn → List Turn → Type 0
MayCome (Started id start end) past =
    (is_some (high past) ≡ true) × (before (high past) start ≡ true)
    × ((can_start (high past) id start end (events past) ≡ true) ⊎ ((e : LineEvent) × In e (events past) × Repeats id start end e))
MayCome (Cancelled id) past = Unit {0}
MayCome (Ended id time) past = (e : LineEvent) → In e (events past) → is_of (high past) id e ≡ true → e.cancelled ≡ false
MayCome (Passed h) past = Rises (high past) h

-- so all of them
abbrev pub MayAllCome : List Turn → Type 0
MayAllCome [] = Unit {0}
MayAllCome (s ∷ past) = MayCome s past × MayAllCome past

-- so many of it
abbrev pub times : {X : Type 0} → ℕ → X → List X → List X
times zero s rest = rest
times (suc n) s rest = s ∷ times n s rest

-- WHAT IS LEFT of a stream of cues: of each cue so many copies as the choice says, which knows all that came before; all packets stay
abbrev pub thinned : (List Turn → ℕ) → List Turn → List Turn
thinned copies [] = []
thinned copies (Started id start end ∷ past) = times (copies (Started id start end ∷ past)) (Started id start end) (thinned copies past)
thinned copies (Cancelled id ∷ past) = times (copies (Cancelled id ∷ past)) (Cancelled id) (thinned copies past)
thinned copies (Ended id time ∷ past) = times (copies (Ended id time ∷ past)) (Ended id time) (thinned copies past)
thinned copies (Passed h ∷ past) = Passed h ∷ thinned copies past

-- the same as a relation: the packets all, and of each cue some copies on the spot, or none
abbrev pub IsThinned : List Turn → List Turn → Type 0
IsThinned [] left = left ≡ []
IsThinned (Started id start end ∷ past) left = (n : ℕ) × (rest : List Turn) × (left ≡ times n (Started id start end) rest) × IsThinned past rest
IsThinned (Cancelled id ∷ past) left = (n : ℕ) × (rest : List Turn) × (left ≡ times n (Cancelled id) rest) × IsThinned past rest
IsThinned (Ended id time ∷ past) left = (n : ℕ) × (rest : List Turn) × (left ≡ times n (Ended id time) rest) × IsThinned past rest
IsThinned (Passed h ∷ past) left = (rest : List Turn) × (left ≡ Passed h ∷ rest) × IsThinned past rest

-- the id that a cue names; a packet names none
abbrev pub id_in : Turn → Option ℕ
id_in (Started id start end) = Some id
id_in (Cancelled id) = Some id
id_in (Ended id time) = Some id
id_in (Passed h) = None

-- how many events with this id there are, forgotten ones, too
abbrev pub count_of : Option ℕ → List LineEvent → ℕ
count_of None es = 0
count_of (Some id) es = length (filter (λ (e : LineEvent). e.id == id) es)

-- THE SAME IS TOLD AGAIN: two cues, each with what came before it, are equal, and no event with their id came between them
abbrev pub TellsAgain : List Turn → List Turn → Type 0
TellsAgain [] now = ⊥
TellsAgain (s ∷ past) [] = ⊥
TellsAgain (s ∷ past) (t ∷ since) = (t ≡ s) × (count_of (id_in t) (events (t ∷ since)) ≡ count_of (id_in t) (events (s ∷ past)))

-- a cue of which one choice leaves none and the other some is told again: of an equal one that came before it the first choice leaves some
abbrev pub IsToldBefore : (List Turn → ℕ) → Turn → List Turn → Type 0
IsToldBefore given s past = (later first : List Turn) × (past ≡ upon later first) × (0 < given first) × TellsAgain first (s ∷ past)

abbrev pub LeavesOne : (List Turn → ℕ) → (List Turn → ℕ) → Turn → List Turn → Type 0
LeavesOne copies given s past =
    (0 < given (s ∷ past) → 0 < copies (s ∷ past)) × (0 < copies (s ∷ past) → (0 < given (s ∷ past)) ⊎ IsToldBefore given s past)

-- so it is with every cue: what the second choice leaves out beyond the first is told again
abbrev pub LeavesOutRepeats : (List Turn → ℕ) → (List Turn → ℕ) → List Turn → Type 0
LeavesOutRepeats copies given [] = Unit {0}
LeavesOutRepeats copies given (Started id start end ∷ past) = LeavesOne copies given (Started id start end) past × LeavesOutRepeats copies given past
LeavesOutRepeats copies given (Cancelled id ∷ past) = LeavesOne copies given (Cancelled id) past × LeavesOutRepeats copies given past
LeavesOutRepeats copies given (Ended id time ∷ past) = LeavesOne copies given (Ended id time) past × LeavesOutRepeats copies given past
LeavesOutRepeats copies given (Passed h ∷ past) = LeavesOutRepeats copies given past

-- an early end that is left out changes nothing where nothing is left out: the first sending of each is kept
abbrev pub KeepsEnds : (List Turn → ℕ) → List Turn → Type 0
KeepsEnds copies [] = Unit {0}
KeepsEnds copies (Started id start end ∷ past) = KeepsEnds copies past
KeepsEnds copies (Cancelled id ∷ past) = KeepsEnds copies past
KeepsEnds copies (Ended id time ∷ past) = ((0 < copies (Ended id time ∷ past)) ⊎ (events (Ended id time ∷ past) ≡ events past)) × KeepsEnds copies past
KeepsEnds copies (Passed h ∷ past) = KeepsEnds copies past

-- a start cue of the event is left
abbrev pub KeepsStart : (List Turn → ℕ) → LineEvent → List Turn → Type 0
KeepsStart copies x past = In (Started x.id x.start x.asked) (thinned copies past)

-- the event is known here
abbrev pub Knows : LineEvent → List LineEvent → Type 0
Knows x es = (e : LineEvent) × In e es × (name_of e ≡ name_of x)

-- a cancel cue of the event is left, one with its id between its arming and its begin
abbrev pub KeepsCancel : (List Turn → ℕ) → LineEvent → List Turn → Type 0
KeepsCancel copies x [] = ⊥
KeepsCancel copies x (Started id start end ∷ past) = KeepsCancel copies x past
KeepsCancel copies x (Cancelled id ∷ past) =
    ((0 < copies (Cancelled id ∷ past)) × (id ≡ x.id) × (before (high past) x.start ≡ true) × Knows x (events past)) ⊎ KeepsCancel copies x past
KeepsCancel copies x (Ended id time ∷ past) = KeepsCancel copies x past
KeepsCancel copies x (Passed h ∷ past) = KeepsCancel copies x past

-- THE PREMISE OF THINNING: each event never cancelled keeps a start cue, each cancelled one a cancel cue or none of its start cues, and
-- the first sending of each early end is kept
pub record KeepsEnough (copies : List Turn → ℕ) (all : List Turn) : Type 0 where
  pub starts : (x : LineEvent) → In x (events all) → x.cancelled ≡ false → KeepsStart copies x all
  pub cancels : (x : LineEvent) → In x (events all) → x.cancelled ≡ true → KeepsCancel copies x all ⊎ (KeepsStart copies x all → ⊥)
  pub ends : KeepsEnds copies all
