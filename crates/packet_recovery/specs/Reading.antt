-- What one call of a reader that finds its place again gives, by the bytes that are left to be framed, and what many of them come to.
use Rattle.std.specs.Prelude.{◌≡◌, ℕ, ◌+◌, ◌*◌, ◌-◌, ◌/◌, ◌^◌, ◌<◌, ◌≤◌, ◌==◌, min, Bool, true, false, not, if◌then◌else◌, List, [], ◌∷◌, ◌++◌, length, take, drop, slice_index, option_map, Option, None, Some, IfSome, Result, Ok, Err, refl}
use Rattle.std.proofs.Common.{◌∙◌}
use Rattle.std.specs.Io.KnownBytes.{Consumes, IsAtEnd, prepend_known}
use Rattle.ts_packet.specs.Packets.{bytes_of}
use Rattle.ts_packet.specs.Transfers.{WentWell, LastMovedNone, LastFailed, TookTurns}
use Rattle.ts_packet.specs.declared.tally.Tally.{Tally}
use Rattle.ts_packet.specs.declared.transfer.FillFault.{FillFault}
use Rattle.ts_packet.specs.declared.transfer.FillFault.TheVariants.{Io, Turns}
use Rattle.ts_packet.specs.declared.device.DeviceFault.{DeviceFault}
use Rattle.ts_packet.specs.declared.device.DeviceFault.TheVariants as device
use Rattle.ts_packet.specs.declared.reader.ReadFault.{ReadFault}
use Rattle.ts_packet.specs.declared.reader.ReadFault.TheVariants as read_faults
use Rattle.packet_recovery.specs.declared.search.Regained.{Regained}
use Rattle.packet_recovery.specs.declared.search.Step.{Step}
use Rattle.packet_recovery.specs.declared.search.Step.TheVariants.{On, Over}
use Rattle.packet_recovery.specs.declared.search.Regained.TheVariants.{Followed, Last, Nowhere}
use Rattle.packet_recovery.specs.Framing.{begins_with_sync, resumed, framed, skipped}
use Rattle.packet_recovery.specs.Mending.{mend, mended, mends}

-- a count that stops at the greatest u64
abbrev pub capped : ℕ → ℕ
capped n = min n (2 ^ 64 - 1)

-- The bytes left to be framed: those that the device has left, behind a sync byte that was read ahead of its packet; none once the device
-- has told its end.
abbrev pub rest_of : Bool → Bool → Option (List ℕ) → Option (List ℕ)
rest_of true ahead left = Some []
rest_of false true left = prepend_known (71 ∷ []) left
rest_of false false left = left

-- ---- the search for a place of sync, behind 188 bytes of which the first is none

-- one read gave so many bytes behind those held; none only at the end
pub record WasReadBehind (old new : Option (List ℕ)) (held now : List ℕ) (n : ℕ) : Type 0 where
  pub more : List ℕ
  pub grown : now ≡ held ++ more
  pub size : length more ≡ n
  pub bytes : Consumes old new more
  pub end : n ≡ 0 → IsAtEnd new

-- What a search has left out, and what it holds: whatever stands behind these, the packets go on in what it holds, and in what stands behind.
pub record Searching (start now : Option (List ℕ)) (out held : List ℕ) (before after : ℕ) : Type 0 where
  pub bytes : Consumes start now (out ++ held)
  pub goes_on : (behind : List ℕ) → resumed (drop 1 ((out ++ held) ++ behind)) ≡ resumed (held ++ behind)
  pub count : after ≡ capped (before + length out)

-- what it found: a packet and the sync byte behind it, a packet at the end, or none up to the end
abbrev pub Searched : Regained → Option (List ℕ) → Option (List ℕ) → List ℕ → ℕ → ℕ → Type 0
Searched Followed start now p before after =
    (out : List ℕ) × Searching start now out (p ++ 71 ∷ []) before after × (length p ≡ 188) × (begins_with_sync p ≡ true)
Searched Last start now p before after =
    (out : List ℕ) × Searching start now out p before after × (length p ≡ 188) × (begins_with_sync p ≡ true) × IsAtEnd now
Searched Nowhere start now p before after =
    (out : List ℕ) × Consumes start now out × IsAtEnd now × (framed (resumed (drop 1 out)) ≡ []) × (after ≡ capped (before + length out))

-- What becomes of the bytes held: a packet stands first, and the sync byte of the next one behind it; or so many bytes are taken out, and
-- whatever stands behind, the packets go on in the others.
abbrev pub PassedOn : Option ℕ → ℕ → List ℕ → List ℕ → Type 0
PassedOn None held old new = (new ≡ old) × (held ≡ 189) × (begins_with_sync old ≡ true) × (slice_index old 188 ≡ 71)
PassedOn (Some out) held old new =
    (out ≤ held) × (held - out ≤ 188) × (take (held - out) new ≡ drop out (take held old))
    × ((behind : List ℕ) → resumed (take held old ++ behind) ≡ resumed (drop out (take held old) ++ behind))

-- what a read of a search came to: so many bytes more are left out, or it is over
abbrev pub Stepped : Step → Option (List ℕ) → Option (List ℕ) → List ℕ → List ℕ → ℕ → ℕ → ℕ → Type 0
Stepped (On n) start now out window held before after =
    (more : List ℕ) × Searching start now (out ++ more) (take held window) before after × (length more ≡ n)
Stepped (Over regained) start now out window held before after = Searched regained start now (take 188 window) before after

abbrev pub takes_few : Step → Type 0
takes_few (On n) = n ≤ 189
takes_few (Over regained) = Unit {0}

abbrev pub StepCounts : Result Step DeviceFault → Tally → Tally → Type 0
StepCounts (Ok (On n)) old new = WentWell old new
StepCounts (Ok (Over Followed)) old new = WentWell old new
StepCounts (Ok (Over Last)) old new = LastMovedNone old new
StepCounts (Ok (Over Nowhere)) old new = LastMovedNone old new
StepCounts (Err device.Interrupted) old new = WentWell old new
StepCounts (Err device.Failed) old new = LastFailed old new

-- bytes were read in which no packet was found; all but 188 of them at most are left out
abbrev pub Missed : Option (List ℕ) → Option (List ℕ) → ℕ → ℕ → Type 0
Missed start now before after =
    (out : List ℕ) × (held : List ℕ) × Consumes start now (out ++ held) × (length held ≤ 188) × (after ≡ capped (before + length out))

-- what its calls came to
abbrev pub SearchCounts : Result Regained FillFault → Tally → Tally → Type 0
SearchCounts (Ok Followed) old new = WentWell old new
SearchCounts (Ok Last) old new = LastMovedNone old new
SearchCounts (Ok Nowhere) old new = LastMovedNone old new
SearchCounts (Err Io) old new = LastFailed old new
SearchCounts (Err Turns) old new = TookTurns (2 ^ 20) old new

-- How many calls it takes at most, by what was left out: 2^20 for each 188 bytes, and as many for what is left of them. Where the count of
-- what is left out stops, that of the calls does too.
abbrev pub most_turns : ℕ → ℕ → ℕ
most_turns before after = if after == 2 ^ 64 - 1 then 2 ^ 64 else 2 ^ 20 * (1 + (after - before) / 188)

-- ---- one call of the reader

-- where a call starts of which the next 188 bytes were read into the slot, or none were, by what is left
abbrev pub StartsAt : Bool → Option (List ℕ) → Option (List ℕ) → List ℕ → Type 0
StartsAt true start left slot = Consumes start left slot
StartsAt false start left slot = start ≡ left

-- behind some bytes that are left out, the next packet stands in the slot
pub record Framed (old new : Option (List ℕ)) (slot : List ℕ) (before after : ℕ) : Type 0 where
  pub out : List ℕ
  pub bytes : Consumes old new (out ++ slot)
  pub size : length slot ≡ 188
  pub sync : begins_with_sync slot ≡ true
  pub follows : IfSome old (λ xs. IfSome new (λ ys. framed xs ≡ slot ∷ framed ys))
  pub skips : after ≡ capped (before + length out)

-- no packet was left: all bytes are left out
pub record RanOut (old new : Option (List ℕ)) (before after : ℕ) : Type 0 where
  pub out : List ℕ
  pub bytes : Consumes old new out
  pub end : IsAtEnd new
  pub none : IfSome old (λ xs. framed xs ≡ [])
  pub skips : after ≡ capped (before + length out)

-- What a look for the next packet found: one in its place, or what a search found.
abbrev pub Sighted : Option Regained → Option (List ℕ) → Option (List ℕ) → List ℕ → ℕ → ℕ → Type 0
Sighted None old now slot before after = Framed old now slot before after
Sighted (Some Followed) old now slot before after = Framed old (prepend_known (71 ∷ []) now) slot before after
Sighted (Some Last) old now slot before after = Framed old (Some []) slot before after
Sighted (Some Nowhere) old now slot before after = RanOut old (Some []) before after

-- what its calls came to
abbrev pub SightCounts : Result (Option Regained) FillFault → Tally → Tally → Type 0
SightCounts (Ok None) old new = WentWell old new
SightCounts (Ok (Some r)) old new = SearchCounts (Ok r) old new
SightCounts (Err Io) old new = LastFailed old new
SightCounts (Err Turns) old new = TookTurns (2 ^ 20) old new

-- so many bytes of a packet were read, fewer only at the end
pub record WasFilled (old new : Option (List ℕ)) (bytes : List ℕ) (n : ℕ) : Type 0 where
  pub fits : n ≤ 188
  pub bytes_are : Consumes old new (take n bytes)
  pub end : n < 188 → IsAtEnd new

abbrev pub FilledCounts : Result ℕ FillFault → Tally → Tally → Type 0
FilledCounts (Ok n) old new = (n < 188 → LastMovedNone old new) × (n ≡ 188 → WentWell old new)
FilledCounts (Err Io) old new = LastFailed old new
FilledCounts (Err Turns) old new = TookTurns (2 ^ 20) old new

-- how many calls of the device one takes at most: 2^20 for the first 188 bytes, and then as many as a search
abbrev pub most_calls_of : ℕ → ℕ → ℕ
most_calls_of before after = 2 ^ 20 + most_turns before after

-- ---- one call of the reader

-- the sync byte behind the packet is read; the device has told its end; a packet was found
abbrev pub is_ahead_by : Option Regained → Bool
is_ahead_by None = false
is_ahead_by (Some Followed) = true
is_ahead_by (Some Last) = false
is_ahead_by (Some Nowhere) = false

abbrev pub has_ended_by : Option Regained → Bool
has_ended_by None = false
has_ended_by (Some Followed) = false
has_ended_by (Some Last) = true
has_ended_by (Some Nowhere) = true

abbrev pub is_packet_by : Option Regained → Bool
is_packet_by None = true
is_packet_by (Some Followed) = true
is_packet_by (Some Last) = true
is_packet_by (Some Nowhere) = false

-- the next packet stands in the slot as it is passed on; how many were marked in error with it, and how many bytes stood before it
pub record Given (old new : Option (List ℕ)) (slot : List ℕ) (given before after mended_before mended_after place : ℕ) : Type 0 where
  pub raw : List ℕ
  pub found : Framed old new raw before after
  pub passed : slot ≡ mend raw
  pub marks : mended_after ≡ capped (mended_before + mends (raw ∷ []))
  pub place_is : place ≡ capped (after + 188 * given)

-- how many bytes stand before the last of so many packets, before which so many are left out; 0 where there is none
abbrev pub last_place : ℕ → ℕ → ℕ
last_place given before = if given == 0 then 0 else capped (before + 188 * (given - 1))

abbrev pub Recovers : Bool → Option (List ℕ) → Option (List ℕ) → List ℕ → ℕ → ℕ → ℕ → ℕ → ℕ → ℕ → ℕ → Type 0
Recovers true old new slot given before after mended_before mended_after place_before place_after = Given old new slot given before after mended_before mended_after place_after
Recovers false old new slot given before after mended_before mended_after place_before place_after =
    RanOut old new before after × (mended_after ≡ mended_before) × (place_after ≡ place_before)

-- the fault of a reader, by that of its device
abbrev pub read_fault_of : FillFault → ReadFault
read_fault_of Io = read_faults.Io
read_fault_of Turns = read_faults.Turns

-- only a device's faults are answered, and `Failed` once one was
abbrev pub IsOfDevice : Bool → ReadFault → Type 0
IsOfDevice broken read_faults.Truncated = ⊥
IsOfDevice broken read_faults.SyncLost = ⊥
IsOfDevice broken read_faults.BadAdaptation = ⊥
IsOfDevice broken read_faults.Io = broken ≡ false
IsOfDevice broken read_faults.Turns = broken ≡ false
IsOfDevice broken read_faults.Failed = broken ≡ true

-- a byte that lies ready is no sync byte, or none lies ready
abbrev pub is_other : Option ℕ → Bool
is_other None = true
is_other (Some b) = not (b == 71)

-- ---- many calls

-- the bytes of the packets that will be given
abbrev pub left_to_give : Option (List ℕ) → Option (List ℕ)
left_to_give rest = option_map (λ bs. bytes_of (mended (framed bs))) rest

-- what the counts will come to at the end
abbrev pub skipped_by : ℕ → Option (List ℕ) → Option ℕ
skipped_by n rest = option_map (λ bs. capped (n + skipped bs)) rest

abbrev pub mended_by : ℕ → Option (List ℕ) → Option ℕ
mended_by n rest = option_map (λ bs. capped (n + mends (framed bs))) rest

-- a number stays, where it is known
abbrev pub Stays : Option ℕ → Option ℕ → Type 0
Stays old new = IfSome old (λ n. new ≡ Some n)

-- a law of it
pub Stays-refl : (a : Option ℕ) → Stays a a
Stays-refl None = tt
Stays-refl (Some n) = refl

-- and another
pub Stays-trans : (a b c : Option ℕ) → Stays a b → Stays b c → Stays a c
Stays-trans None b c h k = tt
Stays-trans (Some n) (Some m) c h k = k ∙ h
Stays-trans (Some n) None c h k = absurd (cc)
