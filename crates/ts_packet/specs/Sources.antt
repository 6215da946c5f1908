-- What one call of a packet reader answers, by the bytes that its source has left, and what many of them come to.
use Rattle.std.specs.Prelude.{◌≡◌, ℕ, ◌+◌, ◌-◌, ◌^◌, ◌<◌, ◌≤◌, Bool, true, false, ◌⊎◌, if◌then◌else◌, nat_eq, nat_lt, List, length, take, Option, None, Some, IfSome, Result, Ok, Err, All}
use Rattle.std.specs.Io.KnownBytes.{Consumes, IsAtEnd}
use Rattle.ts_packet.specs.Packets.{bytes_of, packet_fault}
use Rattle.ts_packet.specs.declared.tally.Tally.{Tally}
use Rattle.ts_packet.specs.Transfers.{WentWell, LastMovedNone, NoneFailed, LastFailed, TookTurns, FallsShort}
use Rattle.ts_packet.specs.declared.packet.PacketFault.{PacketFault}
use Rattle.ts_packet.specs.declared.packet.PacketFault.TheVariants as packet_faults
use Rattle.ts_packet.specs.declared.reader.ReadFault.{ReadFault}
use Rattle.ts_packet.specs.declared.reader.ReadFault.TheVariants.{Truncated, SyncLost, BadAdaptation, Io, Turns, Failed}

-- these bytes were read, and they are a packet
pub record WasGiven (old new : Option (List ℕ)) (p : List ℕ) : Type 0 where
  pub bytes : Consumes old new p
  pub size : length p ≡ 188
  pub sound : packet_fault p ≡ None

-- a packet was there, and stands in the slot; or nothing is left
abbrev pub GivesInto : Option (List ℕ) → Option (List ℕ) → Bool → List ℕ → Type 0
GivesInto old new true slot = WasGiven old new slot
GivesInto old new false slot = IsAtEnd old × IsAtEnd new

-- a packet was there, and is answered; or nothing is left
abbrev pub Gives : Option (List ℕ) → Option (List ℕ) → Option (List ℕ) → Type 0
Gives old new (Some p) = WasGiven old new p
Gives old new None = IsAtEnd old × IsAtEnd new

-- what the bytes left have to be where a reader answers so
abbrev pub Refuses : Bool → Option (List ℕ) → ReadFault → Type 0
Refuses broken left Truncated = IfSome left (λ bs. (0 < length bs) × (length bs < 188))
Refuses broken left SyncLost = IfSome left (λ bs. (188 ≤ length bs) × (packet_fault (take 188 bs) ≡ Some packet_faults.SyncLost))
Refuses broken left BadAdaptation = IfSome left (λ bs. (188 ≤ length bs) × (packet_fault (take 188 bs) ≡ Some packet_faults.BadAdaptation))
Refuses broken left Io = broken ≡ false
Refuses broken left Turns = broken ≡ false
Refuses broken left Failed = broken ≡ true

-- what the reads of a call came to that gave a packet, or found the end: then the last one, and no other, gave nothing
abbrev pub ReadCounts : Bool → Tally → Tally → Type 0
ReadCounts true old new = WentWell old new
ReadCounts false old new = LastMovedNone old new

-- what the reads of a source came to, by whether the end was told
abbrev pub ReadSo : Bool → Tally → Tally → Type 0
ReadSo false old new = WentWell old new
ReadSo true old new = LastMovedNone old new

-- What those of one call came to, by whether the end was told before it, and is now: then nothing is read any more.
abbrev pub SourceCounts : Bool → Bool → Bool → Tally → Tally → Type 0
SourceCounts true before now old new = (before ≡ false) × ReadSo now old new
SourceCounts false false now old new = LastMovedNone old new
SourceCounts false true now old new = new ≡ old

-- what they came to where it answered a fault, after so many packets were given
abbrev pub ReadBlamed : ReadFault → ℕ → Tally → Tally → Type 0
ReadBlamed Truncated given old new = LastMovedNone old new
ReadBlamed SyncLost given old new = WentWell old new
ReadBlamed BadAdaptation given old new = WentWell old new
ReadBlamed Io given old new = LastFailed old new
ReadBlamed Turns given old new = TookTurns (2 ^ 20) old new ⊎ ((given ≡ 2 ^ 64 - 1) × (new ≡ old))
ReadBlamed Failed given old new = new ≡ old

-- the same of any source: a fault of what was read says only that no call failed
abbrev pub SourceBlamed : ReadFault → ℕ → Tally → Tally → Type 0
SourceBlamed Truncated given old new = NoneFailed old new
SourceBlamed SyncLost given old new = NoneFailed old new
SourceBlamed BadAdaptation given old new = NoneFailed old new
SourceBlamed Io given old new = LastFailed old new
SourceBlamed Turns given old new = TookTurns (2 ^ 20) old new ⊎ ((given ≡ 2 ^ 64 - 1) × (new ≡ old))
SourceBlamed Failed given old new = new ≡ old

-- what was read of the bytes left where a reader answers so
abbrev pub Spends : ReadFault → Option (List ℕ) → Option (List ℕ) → Type 0
Spends SyncLost old new = (bs : List ℕ) × Consumes old new bs × (length bs ≡ 188)
Spends BadAdaptation old new = (bs : List ℕ) × Consumes old new bs × (length bs ≡ 188)
Spends Truncated old new = FallsShort 188 old new
Spends Io old new = FallsShort 188 old new
Spends Turns old new = FallsShort 188 old new
Spends Failed old new = new ≡ old

-- what a reader makes of 188 bytes
abbrev pub answer_to : Option PacketFault → Result Bool ReadFault
answer_to None = Ok true
answer_to (Some packet_faults.SyncLost) = Err SyncLost
answer_to (Some packet_faults.BadAdaptation) = Err BadAdaptation

-- what an unbroken reader answers over these bytes, unless its device fails or takes too many calls
abbrev pub answer_over : List ℕ → Result Bool ReadFault
answer_over bs = if nat_eq (length bs) 0 then Ok false else (if nat_lt (length bs) 188 then Err Truncated else answer_to (packet_fault (take 188 bs)))

-- it answers so
abbrev pub ReadAnswers : List ℕ → Result Bool ReadFault → Type 0
ReadAnswers bs answer = (answer ≡ answer_over bs) ⊎ ((answer ≡ Err Io) ⊎ (answer ≡ Err Turns))

-- what was read so far is these packets: a loop over a reader keeps this
pub record HasRead (start left : Option (List ℕ)) (ps : List (List ℕ)) : Type 0 where
  pub bytes : Consumes start left (bytes_of ps)
  pub sizes : All (λ p. length p ≡ 188) ps
  pub sound : All (λ p. packet_fault p ≡ None) ps

-- ---- whole runs over a source

-- what the reads of packets came to up to now, by whether the device had told the end at the begin, and has now
abbrev pub ReadOn : Bool → Bool → Tally → Tally → Type 0
ReadOn false now old new = ReadSo now old new
ReadOn true now old new = (now ≡ true) × (new ≡ old)

-- what they came to from the begin of a run that a reader's fault ends; the run reads nothing of a source that has failed
abbrev pub RunBlamed : ReadFault → Tally → Tally → Type 0
RunBlamed Truncated old new = WentWell old new ⊎ LastMovedNone old new
RunBlamed SyncLost old new = WentWell old new ⊎ LastMovedNone old new
RunBlamed BadAdaptation old new = WentWell old new ⊎ LastMovedNone old new
RunBlamed Io old new = LastFailed old new
RunBlamed Turns old new = WentWell old new
RunBlamed Failed old new = ⊥

-- The reads for one packet took all their turns: from some state of the source on, up to which all went well, they gave fewer bytes than
-- a packet takes. The functions are a source's.
abbrev pub Stalled : {X : Type 0} → (X → X → Type 0) → (X → Tally) → (X → X → Type 0) → X → X → Type 0
Stalled {X} leads counts falls_short first now =
    (at : X) × leads first at × WentWell (counts first) (counts at) × TookTurns (2 ^ 20) (counts at) (counts now) × falls_short at now

-- the source has given as many packets as it may
abbrev pub Exhausted : {X : Type 0} → (X → Option (List ℕ)) → (X → ℕ) → X → Type 0
Exhausted {X} left given first =
    (rest : Option (List ℕ)) × (ps : List (List ℕ)) × HasRead (left first) rest ps × (given first + length ps ≡ 2 ^ 64 - 1)

-- these packets were read, of a source that had given so many before
pub record HasGiven (input left : Option (List ℕ)) (first given : ℕ) (ps : List (List ℕ)) : Type 0 where
  pub read : HasRead input left ps
  pub count : given ≡ first + length ps
