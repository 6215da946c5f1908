-- Whole runs of the switch: what is put, by the network's bytes and the library; what a fault says, and what the output did there.
use Rattle.std.specs.Prelude.{◌≡◌, ℕ, ◌⊎◌, List, [], ◌∷◌, ◌++◌, Bool, false, Option, None, IfSome, reverse}
use Rattle.ts_packet.specs.Packets.{packets_of}
use Rattle.ts_packet.specs.Sources.{ReadSo, ReadOn, SourceCounts, RunBlamed}
use Rattle.ts_packet.specs.declared.tally.Tally.{Tally}
use Rattle.ts_packet.specs.declared.sink.PutFault.{PutFault}
use Rattle.psi_tables.specs.declared.config.Config.{Config}
use Rattle.psi_tables.specs.declared.network.FeedFault.TheVariants.{Network, Sink, Failed}
use Rattle.program_follower.specs.Purposes.{reading_cues}
use Rattle.outgoing_packets.specs.Numbers.{FrontFails}
use Rattle.ad_library.specs.Advertisements.{Advertisement}
use Rattle.splice_plans.specs.declared.report.SwitchReport.{SwitchReport}
use Rattle.splice_plans.specs.Adverts.{setting_of}
use Rattle.splice_plans.specs.Switching.{spliced_network, switched_past, switched_at_packet, rest_at}
use Rattle.splice_plans.specs.Reporting.{ReportIs, report_of}
use Rattle.chain_engine.specs.Stops.{first_run_fault, IsLeftBy, StopsBy}
use Rattle.chain_engine.specs.declared.faults.RunFault.{RunFault}
use Rattle.chain_engine.specs.declared.faults.RunFault.TheVariants.{Read, Feed, SharedPid}

-- THE THEOREM: the network's bytes have no fault; the spliced network is out, with what is left at its end; and the report is by the
-- events that its cues armed. `is_out` says of packets that they stand behind what was there.
pub record Spliced (c : Config) (filed : ℕ → Option Advertisement) (bs : List ℕ) (is_out : List (List ℕ) → Type 0) (report : SwitchReport) : Type 0 where
  pub sound : first_run_fault (reading_cues c) bs ≡ None
  pub written : is_out (spliced_network (setting_of c filed) (packets_of bs))
  pub counted : ReportIs report (report_of (setting_of c filed) (reverse (packets_of bs)))

abbrev pub SplicesAll : Config → (ℕ → Option Advertisement) → Option (List ℕ) → (List (List ℕ) → Type 0) → SwitchReport → Type 0
SplicesAll c filed input is_out report = IfSome input (λ bs. Spliced c filed bs is_out report)

-- what goes out by these packets, in order
abbrev pub switch_sends : Config → (ℕ → Option Advertisement) → List (List ℕ) → List (List ℕ)
switch_sends c filed passed = reverse (switched_past (setting_of c filed) (reverse passed))

-- Of what was to go out next a front went out, and then the sink failed: of what the next packet sends, or, where all packets of a
-- network without a fault are passed, of what is left at its end.
abbrev pub FailsNext : Config → (ℕ → Option Advertisement) → List ℕ → List (List ℕ) → List (List ℕ) → (List (List ℕ) → List ℕ → Type 0) → Type 0
FailsNext c filed bs passed [] fails = (first_run_fault (reading_cues c) bs ≡ None) × FrontFails (rest_at (setting_of c filed) (reverse passed)) fails
FailsNext c filed bs passed (p ∷ more) fails = FrontFails (switched_at_packet (setting_of c filed) p (reverse passed)) fails

-- What is out, by the packets that were passed on and those left. `unsent` says of packets that the output stands behind them, and that sending
-- what it kept back of them failed so.
abbrev pub SpliceLeaves : Config → (ℕ → Option Advertisement) → RunFault → (List (List ℕ) → Type 0)
    → (List (List ℕ) → List ℕ → PutFault → Type 0) → (List (List ℕ) → PutFault → Type 0) → List ℕ → List (List ℕ) → List (List ℕ) → Type 0
SpliceLeaves c filed fault is_out fails unsent bs passed rest = IsLeftBy fault (is_out (switch_sends c filed passed))
    (λ x. FailsNext c filed bs passed rest (λ put q. fails (switch_sends c filed passed ++ put) q x) ⊎ unsent (switch_sends c filed passed) x)

-- THE THEOREM FOR FAULTS of a run with a switch
abbrev pub SpliceStops : Config → (ℕ → Option Advertisement) → RunFault → Option (List ℕ) → (List (List ℕ) → Type 0)
    → (List (List ℕ) → List ℕ → PutFault → Type 0) → (List (List ℕ) → PutFault → Type 0) → Type 0
SpliceStops c filed fault input is_out fails unsent = StopsBy (reading_cues c) fault input (SpliceLeaves c filed fault is_out fails unsent)

-- What the network's device counted where a run stops so, by whether it had told the end before, and has now: up to a packet, or behind one;
-- or, where what is left is not taken, up to the end.
abbrev pub NetworkBlamedToEnd : RunFault → Bool → Bool → Tally → Tally → Type 0
NetworkBlamedToEnd (Read fault) before ended old new = RunBlamed fault old new
NetworkBlamedToEnd (Feed (Network fault)) before ended old new = ReadSo ended old new
NetworkBlamedToEnd (Feed (Sink fault)) before ended old new = ReadOn before ended old new ⊎ SourceCounts false before ended old new
NetworkBlamedToEnd (Feed Failed) before ended old new = ⊥
NetworkBlamedToEnd SharedPid before ended old new = ReadSo ended old new
