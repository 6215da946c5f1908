-- What the first fault of a network is for a cut: what the bytes are not, and what the PID's units may not be.
use Rattle.std.specs.Prelude.{ℕ, List, [], ◌∷◌, Option, option_map}
use Rattle.ts_packet.specs.Runs.{Seen}
use Rattle.ts_packet.specs.FirstFault as firsts
use Rattle.ts_packet.specs.FirstFault.{fault_of, Cause, OfInput, OfDevice, read_cause}
use Rattle.unit_stream.specs.Faults.{unit_fault}
use Rattle.unit_stream.specs.declared.fault.UnitFault.{UnitFault}
use Rattle.unit_stream.specs.declared.fault.UnitFault.TheVariants as unit_faults
use Rattle.packet_runs.specs.declared.run.Stop.{Stop}
use Rattle.packet_runs.specs.declared.run.Stop.TheVariants as stops
use Rattle.unit_cut.specs.declared.run.CutFault.{CutFault}
use Rattle.unit_cut.specs.declared.run.CutFault.TheVariants.{Read, Scrambled, HeaderSplit, TimeJump, Sink}

abbrev pub as_cut_fault : UnitFault → CutFault
as_cut_fault unit_faults.Scrambled = Scrambled
as_cut_fault unit_faults.HeaderSplit = HeaderSplit
as_cut_fault unit_faults.TimeJump = TimeJump

-- the fault of a cut whose run stopped so
abbrev pub fault_of_stop : Stop UnitFault → CutFault
fault_of_stop (stops.Read fault) = Read fault
fault_of_stop (stops.Packet why) = as_cut_fault why
fault_of_stop (stops.Sink fault) = Sink fault

-- what is wrong with a packet for the PID's units, behind those before it
abbrev pub cut_test : ℕ → Seen → Option CutFault
cut_test pid s = option_map as_cut_fault (unit_fault (pid ∷ []) s.packet s.past)

-- what is wrong with 188 bytes, as a packet and then for the units
abbrev pub fault_at : ℕ → Seen → Option CutFault
fault_at pid = fault_of Read (cut_test pid)

-- THE FIRST FAULT of these bytes
abbrev pub first_fault : ℕ → List ℕ → Option CutFault
first_fault pid bs = firsts.first_fault Read (cut_test pid) bs

-- the packets before it
abbrev pub before_fault : ℕ → List ℕ → List (List ℕ)
before_fault pid bs = firsts.before_fault Read (cut_test pid) bs

-- Where a fault comes from. What a sink refuses says nothing of the network; whether it may answer `Failed`, it says itself.
abbrev pub cut_cause : CutFault → Cause
cut_cause (Read fault) = read_cause fault
cut_cause (Sink fault) = OfDevice
cut_cause fault = OfInput
