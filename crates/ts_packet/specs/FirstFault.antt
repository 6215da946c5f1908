-- The first fault of a run, for faults of any kind, and what a fault says of the output, whatever that is.
use Rattle.std.specs.Prelude.{◌≡◌, ℕ, ◌==◌, List, [], ◌∷◌, if◌then◌else◌, Option, None, Some, length}
use Rattle.ts_packet.specs.Packets.{packets_of, last_part, packet_fault}
use Rattle.ts_packet.specs.Runs.{Seen, seen_after}
use Rattle.ts_packet.specs.declared.packet.PacketFault.{PacketFault}
use Rattle.ts_packet.specs.declared.packet.PacketFault.TheVariants as packet_faults
use Rattle.ts_packet.specs.declared.reader.ReadFault.{ReadFault}
use Rattle.ts_packet.specs.declared.reader.ReadFault.TheVariants as read_faults

-- the first of two faults
abbrev pub or_then : {F : Type 0} → Option F → Option F → Option F
or_then None later = later
or_then (Some fault) later = Some fault

-- the first fault of packets, by a test on each with those before it
abbrev pub first_of : {F : Type 0} → (Seen → Option F) → List Seen → Option F
first_of test [] = None
first_of test (s ∷ ss) = or_then (test s) (first_of test ss)

-- the packets before the first faulty one
abbrev pub sound_front : {F : Type 0} → (Seen → Option F) → List Seen → List (List ℕ)
sound_front test [] = []
sound_front test (s ∷ ss) = elim (test s) [ None ↦ s.packet ∷ sound_front test ss | Some fault ↦ [] ]

-- ---- of bytes: what 188 of them are not comes before what the packet may not be; `name` names the reader's faults

abbrev pub named : {F : Type 0} → (ReadFault → F) → Option PacketFault → Option F
named name None = None
named name (Some packet_faults.SyncLost) = Some (name read_faults.SyncLost)
named name (Some packet_faults.BadAdaptation) = Some (name read_faults.BadAdaptation)

abbrev pub fault_of : {F : Type 0} → (ReadFault → F) → (Seen → Option F) → Seen → Option F
fault_of name test s = or_then (named name (packet_fault s.packet)) (test s)

-- what is left behind the last whole packet
abbrev pub fault_behind : {F : Type 0} → (ReadFault → F) → List ℕ → Option F
fault_behind name rest = if length rest == 0 then None else Some (name read_faults.Truncated)

-- THE FIRST FAULT of these bytes
abbrev pub first_fault : {F : Type 0} → (ReadFault → F) → (Seen → Option F) → List ℕ → Option F
first_fault name test bs = or_then (first_of (fault_of name test) (seen_after [] (packets_of bs))) (fault_behind name (last_part bs))

-- the packets before it
abbrev pub before_fault : {F : Type 0} → (ReadFault → F) → (Seen → Option F) → List ℕ → List (List ℕ)
before_fault name test bs = sound_front (fault_of name test) (seen_after [] (packets_of bs))

-- ---- what a fault says of the output

-- a fault is one of the input's bytes, or a device's, or is never answered
pub data Cause : Type 0 where
  OfInput : Cause
  OfDevice : Cause
  OfNothing : Cause

abbrev pub read_cause : ReadFault → Cause
read_cause read_faults.Truncated = OfInput
read_cause read_faults.SyncLost = OfInput
read_cause read_faults.BadAdaptation = OfInput
read_cause read_faults.Io = OfDevice
read_cause read_faults.Turns = OfDevice
read_cause read_faults.Failed = OfNothing

-- THE TABLE: a fault of the input is the first one; a device's says nothing of the input
abbrev pub SaysBy : Cause → Type 0 → Type 0
SaysBy OfInput first = first
SaysBy OfDevice first = Unit {0}
SaysBy OfNothing first = ⊥

-- The fault is the first one, and what these packets before it make is out. `is_out` says of packets whether the output has grown by what is
-- made of them: their bytes, or their lines.
pub record IsFirstFault {F : Type 0} (found : Option F) (is_out : List (List ℕ) → Type 0) (ps : List (List ℕ)) (fault : F) : Type 0 where
  pub first : found ≡ Some fault
  pub before : is_out ps
