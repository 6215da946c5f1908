-- What a run of `cut` puts, where its source tells its bytes; what its faults say, and what its devices did there.
use Rattle.std.specs.Prelude.{◌≡◌, ℕ, ◌⊎◌, List, [], ◌∷◌, ◌++◌, Bool, Option, None, Some, IfSome, reverse}
use Rattle.ts_packet.specs.Packets.{packets_of}
use Rattle.ts_packet.specs.Sources.{ReadSo, ReadOn, RunBlamed}
use Rattle.ts_packet.specs.Sinks.{Blamed}
use Rattle.ts_packet.specs.declared.tally.Tally.{Tally}
use Rattle.ts_packet.specs.Transfers.{WentWell}
use Rattle.packet_runs.specs.Devices.{OfPackets, OfPut, OfSending}
use Rattle.unit_cut.specs.Cutting.{cut, cut_between}
use Rattle.unit_cut.specs.Standing.{Cut, goes_by, Begins, CutterStandsFor}
use Rattle.ts_packet.specs.FirstFault.{IsFirstFault, SaysBy}
use Rattle.unit_cut.specs.FirstFault.{first_fault, before_fault, cut_cause}
use Rattle.unit_cut.specs.declared.cutter.Cutter.{Cutter}
use Rattle.unit_cut.specs.declared.run.CutFault.{CutFault}
use Rattle.unit_cut.specs.declared.run.CutFault.TheVariants.{Read, Sink}

-- THE THEOREM: the network's bytes have no fault, and the packets of the cut are out. `is_out` says so of packets: of a writer, that
-- their bytes, or their lines, stand behind what its device held.
abbrev pub CutsAll : ℕ → ℕ → ℕ → Option (List ℕ) → OfPackets → Type 0
CutsAll pid from length input is_out =
    IfSome input (λ bs. (first_fault pid bs ≡ None) × is_out (cut_between from length pid (packets_of bs)))

-- ---- what a fault says

-- the fault is the first one of the bytes, and the cut of all that stood before it is out
abbrev pub IsFirst : CutFault → ℕ → ℕ → ℕ → List ℕ → OfPackets → Type 0
IsFirst fault pid from length bs is_out =
    IsFirstFault (first_fault pid bs) is_out (cut_between from length pid (before_fault pid bs)) fault

-- a fault of the bytes is the first one; a fault of a device says nothing of them
abbrev pub Says : CutFault → ℕ → ℕ → ℕ → List ℕ → OfPackets → Type 0
Says fault pid from length bs is_out = SaysBy (cut_cause fault) (IsFirst fault pid from length bs is_out)

-- a front of these packets is out
abbrev pub FrontIsOut : List (List ℕ) → OfPackets → Type 0
FrontIsOut whole is_out = (front more : List (List ℕ)) × (whole ≡ front ++ more) × is_out front

-- a front of them is out, and the put of the next one failed
abbrev pub NextFails : List (List ℕ) → (List (List ℕ) → List ℕ → Type 0) → Type 0
NextFails whole fails = (front : List (List ℕ)) × (p : List ℕ) × (more : List (List ℕ)) × (whole ≡ front ++ p ∷ more) × fails front p

-- What is out of these packets where a run stops so: whole packets alone, unless the put of one failed, or a front of them was put and
-- sending what the sink kept back of it failed: `unsent` says so of packets.
abbrev pub Leaves : CutFault → List (List ℕ) → OfPackets → OfPut → OfSending → Type 0
Leaves (Sink fault) whole is_out fails unsent =
    NextFails whole (λ front p. fails front p fault) ⊎ FrontIsOut whole (λ front. unsent front fault)
Leaves fault whole is_out fails unsent = FrontIsOut whole is_out

-- THE THEOREM FOR FAULTS: what the fault says, and what is out
abbrev pub Stops : CutFault → ℕ → ℕ → ℕ → Option (List ℕ) → OfPackets → OfPut → OfSending → Type 0
Stops fault pid from length input is_out fails unsent =
    IfSome input (λ bs. Says fault pid from length bs is_out × Leaves fault (cut_between from length pid (packets_of bs)) is_out fails unsent)

-- ---- what the devices did

-- what the network's device counted where a run stops so, by whether it had told the end before, and has now
abbrev pub NetworkBlamed : CutFault → Bool → Bool → Tally → Tally → Type 0
NetworkBlamed (Read fault) before ended old new = RunBlamed fault old new
NetworkBlamed (Sink fault) before ended old new = ReadOn before ended old new
NetworkBlamed fault before ended old new = ReadSo ended old new

-- what the output's device counted there; `full` is whether the output takes no more
abbrev pub OutputBlamed : CutFault → Tally → Tally → Bool → Type 0
OutputBlamed (Sink fault) old new full = Blamed fault old new full
OutputBlamed fault old new full = WentWell old new

-- ---- on the way

-- the cut that the run makes, whose begin the packets so far place
pub record IsCutOf (k : Cut) (pid from length : ℕ) (ps : List (List ℕ)) : Type 0 where
  pub pid_is : k.pid ≡ pid
  pub from_is : k.from ≡ from
  pub length_is : k.length ≡ length
  pub begins : Begins k (reverse ps)

-- what is left of these packets by that cut
abbrev pub cut_by : Cut → List (List ℕ) → List (List ℕ)
cut_by k ps = cut (goes_by k) (k.pid ∷ []) k.pid ps

-- a cutter that was `first` has got these packets, and these stay of them; this is the PID's last payload packet
abbrev pub HasCut : Cutter → List (List ℕ) → List (List ℕ) → List ℕ → Cutter → Type 0
HasCut first ps stay kept now =
    (k : Cut) → IsCutOf k first.pid first.timing.from first.timing.length ps → CutterStandsFor now kept k (reverse ps) × (stay ≡ cut_by k ps)

-- what stays of these packets by the cut that a cutter makes
abbrev pub cut_of : Cutter → List (List ℕ) → List (List ℕ)
cut_of cutter ps = cut_between cutter.timing.from cutter.timing.length cutter.pid ps

-- behind these packets that stay the next one stays too, as this one
abbrev pub AddsOne : Cutter → List (List ℕ) → Option (List ℕ) → List (List ℕ) → List ℕ → Type 0
AddsOne cutter ps None stay q = ⊥
AddsOne cutter ps (Some p) stay q = cut_of cutter (ps ++ p ∷ []) ≡ stay ++ q ∷ []
