-- Why a run stops, whatever is done with its packets: what the fault says of the source's bytes, and of the packets that were passed on.
use Rattle.std.specs.Prelude.{◌≡◌, ℕ, List, [], ◌++◌, Option, None, Some, option_map}
use Rattle.ts_packet.specs.Packets.{packets_of}
use Rattle.ts_packet.specs.Runs.{Seen, seen_after}
use Rattle.ts_packet.specs.FirstFault.{Cause, OfInput, OfDevice, read_cause, SaysBy, first_of, fault_of, first_fault, before_fault}
use Rattle.ts_packet.specs.declared.reader.ReadFault.{ReadFault}
use Rattle.packet_runs.specs.declared.stage.StageFault.{StageFault}
use Rattle.packet_runs.specs.declared.stage.StageFault.TheVariants as stage
use Rattle.packet_runs.specs.declared.run.Stop.{Stop}
use Rattle.packet_runs.specs.declared.run.Stop.TheVariants.{Read, Packet, Sink}

-- the stop of a run whose stage answered this
abbrev pub stop_of : {N : Type 0} → StageFault N → Stop N
stop_of (stage.Packet why) = Packet why
stop_of (stage.Sink fault) = Sink fault

-- what stops a run at a packet, by what its stage refuses
abbrev pub refusal_test : {N : Type 0} → (Seen → Option N) → Seen → Option (Stop N)
refusal_test refusal s = option_map Packet (refusal s)

-- Where a stop comes from. What a sink does not take says nothing of the source.
abbrev pub stop_cause : {N : Type 0} → Stop N → Cause
stop_cause (Read fault) = read_cause fault
stop_cause (Packet why) = OfInput
stop_cause (Sink fault) = OfDevice

-- THE THEOREM FOR FAULTS: a fault of the input is the first one of its bytes, and the packets before it were passed on; a device's says
-- nothing of those left; and none of the packets that were passed on is at fault. `leaves` says, of the bytes, of the packets passed on and
-- of those left, what is out.
pub record Stopped {F : Type 0} (name : ReadFault → F) (test : Seen → Option F) (cause : F → Cause) (fault : F) (bs : List ℕ)
    (leaves : List ℕ → List (List ℕ) → List (List ℕ) → Type 0) : Type 0 where
  pub passed : List (List ℕ)
  pub rest : List (List ℕ)
  pub parts : packets_of bs ≡ passed ++ rest
  pub sound : first_of (fault_of name test) (seen_after [] passed) ≡ None
  pub says : SaysBy (cause fault) ((first_fault name test bs ≡ Some fault) × (before_fault name test bs ≡ passed))
  pub left : leaves bs passed rest

-- so it is of the source's bytes, or of some where they are not told
abbrev pub StopsBy : {F : Type 0} → (ReadFault → F) → (Seen → Option F) → (F → Cause) → F → Option (List ℕ)
    → (List ℕ → List (List ℕ) → List (List ℕ) → Type 0) → Type 0
StopsBy name test cause fault None leaves = (bs : List ℕ) × Stopped name test cause fault bs leaves
StopsBy name test cause fault (Some bs) leaves = Stopped name test cause fault bs leaves
