-- STRETCHES: the parts of a network that are followed each by itself, so that no fault of its packets ends a run. Within one, packets that are
-- damaged are left unjudged: they are read as packets that are marked in error (ISO/IEC 13818-1, 2.4.3.3, transport_error_indicator), of which
-- nothing is relied on. All is said by the packets of the stretch, newest first.
use Rattle.std.specs.Prelude.{ℕ, List, [], ◌∷◌, map, Bool, true, false, not, ◌&&◌, ◌==◌, if◌then◌else◌, Option, None, Some, is_some}
use Rattle.ts_packet.specs.Fields.{payload, marked, alike}
use Rattle.psi_tables.specs.declared.network.NetworkFault.{NetworkFault}
use Rattle.psi_tables.specs.declared.network.NetworkFault.TheVariants.{TimeJump, HeaderSplit, Scrambled, ProgramChanged, TooManyStreams, BadPids, PmtTooLong, CuePidUsed, Sections}
use Rattle.program_follower.specs.declared.purpose.Purpose.{Purpose}
use Rattle.program_follower.specs.declared.starts.UnitStart.{UnitStart}
use Rattle.program_follower.specs.Program.{program_of, pids_of, behind_head}
use Rattle.program_follower.specs.Faults.{network_fault, on_cue}
use Rattle.program_follower.specs.Streaming.{place_in, start_in}

-- what became of a packet
pub data Judgement : Type 0 where
  Judged : Judgement
  -- unjudged, and no unit is damaged by it
  Passed : Judgement
  -- unjudged, and the unit that begins with it is damaged: it is scrambled, or its stamps are split
  Damaged : Judgement
  -- unjudged, since its time lies far off; the unit that begins with it is damaged
  Jumped : Judgement

pub record Entry : Type 0 where
  pub packet : List ℕ
  pub judgement : Judgement

abbrev pub is_judged : Judgement → Bool
is_judged Judged = true
is_judged Passed = false
is_judged Damaged = false
is_judged Jumped = false

abbrev pub is_jumped : Judgement → Bool
is_jumped Judged = false
is_jumped Passed = false
is_jumped Damaged = false
is_jumped Jumped = true

abbrev pub damages : Judgement → Bool
damages Judged = false
damages Passed = false
damages Damaged = true
damages Jumped = true

-- the packet as it is read, and the stretch so far
abbrev pub read_by : Judgement → List ℕ → List ℕ
read_by j p = if is_judged j then p else marked p

abbrev pub as_read : List Entry → List (List ℕ)
as_read past = map (λ (e : Entry). read_by e.judgement e.packet) past

-- the number of the switched stream that the next packet is of, behind the head
abbrev pub stream_at : Purpose → List ℕ → List Entry → Option ℕ
stream_at c p past = place_in (pids_of (program_of c.program (as_read past))) p

-- the unit that it begins there; it repeats no packet that was judged
abbrev pub start_at : Purpose → List ℕ → List Entry → Option UnitStart
start_at c p past = start_in (pids_of (program_of c.program (as_read past))) p (behind_head c.program (as_read past))

abbrev pub has_time : Option UnitStart → Bool
has_time None = false
has_time (Some start) = is_some start.pts

abbrev pub is_stream : ℕ → Option ℕ → Bool
is_stream n None = false
is_stream n (Some m) = m == n

-- a packet of the stream of this number; and one that began a unit with a time there, and was judged
abbrev pub is_of : Purpose → ℕ → Entry → List Entry → Bool
is_of c n e past = is_stream n (stream_at c e.packet past)

abbrev pub is_timed : Purpose → Entry → List Entry → Bool
is_timed c e past = is_judged e.judgement && has_time (start_at c e.packet past)

-- ---- far times

-- The last unit of the stream that has begun with a time was left unjudged for it. (One damaged stamp costs its unit at most; a new time base
-- is seen at a stream's second timed unit.)
abbrev pub jumped_last : Purpose → ℕ → List Entry → Bool
jumped_last c n [] = false
jumped_last c n (e ∷ past) =
    if is_of c n e past
    then (if is_jumped e.judgement then true else (if is_timed c e past then false else jumped_last c n past))
    else jumped_last c n past

-- the last packet with a payload of the stream
abbrev pub last_payload : Purpose → ℕ → List Entry → Option Entry
last_payload c n [] = None
last_payload c n (e ∷ past) = if is_of c n e past && is_some (payload e.packet) then Some e else last_payload c n past

-- it was left unjudged for its time, and the next packet repeats it
abbrev pub repeats_jumped : List ℕ → Option Entry → Bool
repeats_jumped p None = false
repeats_jumped p (Some e) = is_jumped e.judgement && alike e.packet p

-- a time far off costs its unit; where another comes, a new stretch begins
abbrev pub is_lone_jump : Purpose → ℕ → List ℕ → List Entry → Bool
is_lone_jump c n p past = not (jumped_last c n past && not (repeats_jumped p (last_payload c n past)))

-- ---- damaged units

-- the last unit of the stream that was damaged has no end yet: none with a time was judged behind it
abbrev pub in_damaged : Purpose → ℕ → List Entry → Bool
in_damaged c n [] = false
in_damaged c n (e ∷ past) =
    if is_of c n e past
    then (if damages e.judgement then true else (if is_timed c e past then false else in_damaged c n past))
    else in_damaged c n past

-- ---- a packet

-- its judgement; where a new stretch begins with it, the fault with which it does
pub data Verdict : Type 0 where
  Is : Judgement → Verdict
  BeginsNew : NetworkFault → Verdict

-- of a packet of no switched stream: one on the PID on which cues are written is left out of account
abbrev pub verdict_beside : Bool → Option NetworkFault → Verdict
verdict_beside is_cue None = Is Judged
verdict_beside is_cue (Some CuePidUsed) = if is_cue then Is Passed else BeginsNew CuePidUsed
verdict_beside is_cue (Some Scrambled) = BeginsNew Scrambled
verdict_beside is_cue (Some HeaderSplit) = BeginsNew HeaderSplit
verdict_beside is_cue (Some TimeJump) = BeginsNew TimeJump
verdict_beside is_cue (Some ProgramChanged) = BeginsNew ProgramChanged
verdict_beside is_cue (Some TooManyStreams) = BeginsNew TooManyStreams
verdict_beside is_cue (Some BadPids) = BeginsNew BadPids
verdict_beside is_cue (Some PmtTooLong) = BeginsNew PmtTooLong
verdict_beside is_cue (Some Sections) = BeginsNew Sections

-- of one that has no fault: a packet of a damaged unit is left unjudged, up to the next unit with a time
abbrev pub verdict_sound : Bool → Bool → Verdict
verdict_sound is_damaged has_time = if is_damaged && not has_time then Is Passed else Is Judged

-- of one of the switched stream of this number
abbrev pub verdict_of : Purpose → ℕ → Option NetworkFault → List ℕ → List Entry → Verdict
verdict_of c n None p past = verdict_sound (in_damaged c n past) (has_time (start_at c p past))
verdict_of c n (Some Scrambled) p past = Is (if is_some (start_at c p past) then Damaged else Passed)
verdict_of c n (Some HeaderSplit) p past = Is (if is_some (start_at c p past) then Damaged else Passed)
verdict_of c n (Some TimeJump) p past = if is_lone_jump c n p past then Is Jumped else BeginsNew TimeJump
verdict_of c n (Some CuePidUsed) p past = BeginsNew CuePidUsed
verdict_of c n (Some ProgramChanged) p past = BeginsNew ProgramChanged
verdict_of c n (Some TooManyStreams) p past = BeginsNew TooManyStreams
verdict_of c n (Some BadPids) p past = BeginsNew BadPids
verdict_of c n (Some PmtTooLong) p past = BeginsNew PmtTooLong
verdict_of c n (Some Sections) p past = BeginsNew Sections

abbrev pub verdict_at : Purpose → Option ℕ → List ℕ → List Entry → Verdict
verdict_at c None p past = verdict_beside (c.writes_cues && on_cue c.cue_pid p) (network_fault c p (as_read past))
verdict_at c (Some n) p past = verdict_of c n (network_fault c p (as_read past)) p past

-- THE VERDICT of a packet behind these of its stretch
abbrev pub verdict : Purpose → List ℕ → List Entry → Verdict
verdict c p past = verdict_at c (stream_at c p past) p past

-- a first packet begins no other stretch: with a fault it is left unjudged
abbrev pub as_first : Verdict → Judgement
as_first (Is j) = j
as_first (BeginsNew fault) = Passed

abbrev pub first_entry : Purpose → List ℕ → Entry
first_entry c p = record { packet = p; judgement = as_first (verdict c p []) }

-- ---- a network

abbrev pub joined : Purpose → Verdict → List ℕ → List Entry → List (List Entry) → List (List Entry)
joined c (Is j) p past earlier = (record { packet = p; judgement = j } ∷ past) ∷ earlier
joined c (BeginsNew fault) p past earlier = (first_entry c p ∷ []) ∷ (past ∷ earlier)

abbrev pub with_next : Purpose → List ℕ → List (List Entry) → List (List Entry)
with_next c p [] = (first_entry c p ∷ []) ∷ []
with_next c p (past ∷ earlier) = joined c (verdict c p past) p past earlier

-- THE STRETCHES of packets, newest first: each is the list of its packets, the newest first too
abbrev pub stretches : Purpose → List (List ℕ) → List (List Entry)
stretches c [] = []
stretches c (p ∷ past) = with_next c p (stretches c past)
