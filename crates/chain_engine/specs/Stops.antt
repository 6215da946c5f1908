-- Why a whole run stops, whatever purpose its network is followed for: what the fault says of the network's bytes, and of what is out.
use Rattle.std.specs.Prelude.{◌≡◌, ℕ, List, [], Option, None}
use Rattle.ts_packet.specs.Runs.{seen_after}
use Rattle.ts_packet.specs.FirstFault.{Cause, OfInput, OfDevice, OfNothing, read_cause, first_of, fault_of}
use Rattle.ts_packet.specs.declared.sink.PutFault.{PutFault}
use Rattle.ts_packet.specs.declared.sink.PutFault.TheVariants as put_faults
use Rattle.packet_runs.specs.Stops as stops
use Rattle.packet_runs.specs.declared.run.Stop.{Stop}
use Rattle.packet_runs.specs.declared.run.Stop.TheVariants as stop
use Rattle.packet_runs.specs.declared.stage.StageFault.{StageFault}
use Rattle.packet_runs.specs.declared.stage.StageFault.TheVariants as stage
use Rattle.psi_tables.specs.declared.network.FeedFault.{FeedFault}
use Rattle.psi_tables.specs.declared.network.FeedFault.TheVariants.{Network, Sink, Failed}
use Rattle.psi_tables.specs.declared.network.NetworkFault.{NetworkFault}
use Rattle.program_follower.specs.declared.purpose.Purpose.{Purpose}
use Rattle.program_follower.specs.FirstFault.{network_test, first_network_fault, before_network_fault}
use Rattle.chain_engine.specs.declared.faults.RunFault.{RunFault}
use Rattle.chain_engine.specs.declared.faults.RunFault.TheVariants.{Read, Feed, SharedPid}

-- ---- faults of the network

abbrev pub as_run_fault : NetworkFault → RunFault
as_run_fault fault = Feed (Network fault)

-- THE FIRST FAULT of these bytes, where the network is followed for this
abbrev pub first_run_fault : Purpose → List ℕ → Option RunFault
first_run_fault k bs = first_network_fault Read as_run_fault k bs

-- the packets before it
abbrev pub before_run_fault : Purpose → List ℕ → List (List ℕ)
before_run_fault k bs = before_network_fault Read as_run_fault k bs

-- none of these packets is at fault behind those before it
abbrev pub AreSound : Purpose → List (List ℕ) → Type 0
AreSound k ps = first_of (fault_of Read (network_test as_run_fault k)) (seen_after [] ps) ≡ None

-- Where a fault comes from. What a sink refuses says nothing of the network.
abbrev pub run_cause : RunFault → Cause
run_cause (Read fault) = read_cause fault
run_cause (Feed (Network fault)) = OfInput
run_cause (Feed (Sink fault)) = OfDevice
run_cause (Feed Failed) = OfNothing
run_cause SharedPid = OfInput

-- the fault of a run whose stage stopped it so
abbrev pub run_fault_of : Stop NetworkFault → RunFault
run_fault_of (stop.Read fault) = Read fault
run_fault_of (stop.Packet fault) = Feed (Network fault)
run_fault_of (stop.Sink fault) = Feed (Sink fault)

-- what a stage says of such a fault of what it feeds; it is fed no packet behind a fault
abbrev pub stage_fault_of : FeedFault → StageFault NetworkFault
stage_fault_of (Network fault) = stage.Packet fault
stage_fault_of (Sink fault) = stage.Sink fault
stage_fault_of Failed = stage.Sink put_faults.Failed

-- and the sink, where what is left at the end is not taken
abbrev pub put_fault_of : FeedFault → PutFault
put_fault_of (Network fault) = put_faults.Failed
put_fault_of (Sink fault) = fault
put_fault_of Failed = put_faults.Failed

-- ---- what is out

-- What is out where a run stops so: all that was sent; or, where the sink failed, what that failure says.
abbrev pub IsLeftBy : RunFault → Type 0 → (PutFault → Type 0) → Type 0
IsLeftBy (Read fault) all next = all
IsLeftBy (Feed (Network fault)) all next = all
IsLeftBy (Feed (Sink fault)) all next = next fault
IsLeftBy (Feed Failed) all next = ⊥
IsLeftBy SharedPid all next = all

-- the sink failed so, of which this is said
abbrev pub IfSink : RunFault → (PutFault → Type 0) → Type 0
IfSink (Read fault) said = ⊥
IfSink (Feed (Network fault)) said = ⊥
IfSink (Feed (Sink fault)) said = said fault
IfSink (Feed Failed) said = ⊥
IfSink SharedPid said = ⊥

-- THE THEOREM FOR FAULTS: a fault of the network is the first one of its bytes, and the packets before it were passed on; a device's says
-- nothing of those left; and none of the packets that were passed on is at fault. `leaves` says, of the bytes, of the packets passed on and
-- of those left, what is out and answered.
abbrev pub StoppedBy : Purpose → RunFault → List ℕ → (List ℕ → List (List ℕ) → List (List ℕ) → Type 0) → Type 0
StoppedBy k fault bs leaves = stops.Stopped Read (network_test as_run_fault k) run_cause fault bs leaves

-- so it is of the network's bytes, or of some where they are not told
abbrev pub StopsBy : Purpose → RunFault → Option (List ℕ) → (List ℕ → List (List ℕ) → List (List ℕ) → Type 0) → Type 0
StopsBy k fault input leaves = stops.StopsBy Read (network_test as_run_fault k) run_cause fault input leaves
