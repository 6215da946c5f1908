-- PROGRESS: what a whole run answers comes from the network's bytes, unless a device stopped it.
use Rattle.std.specs.Prelude.{◌≡◌, ℕ, ◌⊎◌, List, Bool, Option, None, Some, IfSome, Result, Ok, Err}
use Rattle.ts_packet.specs.Sinks.{Blamed}
use Rattle.ts_packet.specs.Transfers.{WentWell, LastMovedNone, LastFailed}
use Rattle.ts_packet.specs.FirstFault.{OfInput}
use Rattle.ts_packet.specs.declared.reader.ReadFault.TheVariants as read_faults
use Rattle.ts_packet.specs.declared.tally.Tally.{Tally}
use Rattle.ts_packet.specs.declared.sink.PutFault.{PutFault}
use Rattle.psi_tables.specs.declared.network.FeedFault.TheVariants.{Network, Sink, Failed}
use Rattle.chain_engine.specs.Stops.{run_cause}
use Rattle.chain_engine.specs.declared.faults.RunFault.{RunFault}
use Rattle.chain_engine.specs.declared.faults.RunFault.TheVariants.{Read, Feed, SharedPid}

-- No read failed, and one at most moved no byte, the last, which told the end; no write failed, and each moved a byte.
abbrev pub DevicesWentWell : Tally → Tally → Tally → Tally → Type 0
DevicesWentWell read read' written written' = (WentWell read read' ⊎ LastMovedNone read read') × WentWell written written'

-- A device stopped the run: the last read failed; a count ran out, of the reads for one packet or of the packets that a source may give; or
-- the output did not take a packet: its last write failed or moved no byte, it is full, or the writes for one packet ran out. `fails` says
-- of packets that the output stands behind them, and its put of a further one failed so; `unsent`, that sending what it kept back of them did.
abbrev pub DeviceStops : RunFault → Type 0 → Tally → Tally → Tally → Tally → Bool → (List (List ℕ) → List ℕ → PutFault → Type 0)
    → (List (List ℕ) → PutFault → Type 0) → Type 0
DeviceStops (Read read_faults.Io) ran_out read read' written written' full fails unsent = LastFailed read read'
DeviceStops (Read read_faults.Turns) ran_out read read' written written' full fails unsent = ran_out
DeviceStops (Read read_faults.Truncated) ran_out read read' written written' full fails unsent = ⊥
DeviceStops (Read read_faults.SyncLost) ran_out read read' written written' full fails unsent = ⊥
DeviceStops (Read read_faults.BadAdaptation) ran_out read read' written written' full fails unsent = ⊥
DeviceStops (Read read_faults.Failed) ran_out read read' written written' full fails unsent = ⊥
DeviceStops (Feed (Sink fault)) ran_out read read' written written' full fails unsent =
    Blamed fault written written' full
    × (((ps : List (List ℕ)) × (p : List ℕ) × fails ps p fault) ⊎ ((ps : List (List ℕ)) × unsent ps fault))
DeviceStops (Feed (Network fault)) ran_out read read' written written' full fails unsent = ⊥
DeviceStops (Feed Failed) ran_out read read' written written' full fails unsent = ⊥
DeviceStops SharedPid ran_out read read' written written' full fails unsent = ⊥

-- what was found wrong is the first fault of these bytes, by name; where they are not told, it is a fault of what was read
abbrev pub IsFirstIn : (List ℕ → Option RunFault) → Option (List ℕ) → Option RunFault → Type 0
IsFirstIn first (Some bs) found = found ≡ first bs
IsFirstIn first None found = IfSome found (λ fault. run_cause fault ≡ OfInput)

-- THE THEOREM: no device failed, and the answer is the first fault of the bytes, and Ok where there is none; or a device stopped the run.
-- `ran_out` says that a count of the source ran out.
abbrev pub Progresses : {R : Type 0} → (List ℕ → Option RunFault) → Option (List ℕ) → Type 0 → Tally → Tally → Tally → Tally → Bool
    → (List (List ℕ) → List ℕ → PutFault → Type 0) → (List (List ℕ) → PutFault → Type 0) → Result R RunFault → Type 0
Progresses first input ran_out read read' written written' full fails unsent (Ok report) =
    DevicesWentWell read read' written written' × IsFirstIn first input None
Progresses first input ran_out read read' written written' full fails unsent (Err fault) =
    (DevicesWentWell read read' written written' × IsFirstIn first input (Some fault))
    ⊎ DeviceStops fault ran_out read read' written written' full fails unsent
