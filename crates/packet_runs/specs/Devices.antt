-- What a whole run says of its ends: of the packets that stand behind what its sink held, and of what the devices of its source and of its
-- sink did. `packets` are the words of the source, and `puts` those of the sink.
use Rattle.std.specs.Prelude.{◌≡◌, ℕ, ◌⊎◌, List, ◌++◌, Bool, false, Option, Result, Err, OnOk, IfErr}
use Rattle.ts_packet.specs.Sources.{SourceCounts, Stalled, Exhausted}
use Rattle.ts_packet.specs.Transfers.{WentWell}
use Rattle.ts_packet.specs.declared.tally.Tally.{Tally}
use Rattle.ts_packet.specs.declared.source.PacketSource as source
use Rattle.ts_packet.specs.declared.sink.PacketSink as sink
use Rattle.ts_packet.specs.declared.sink.PutFault.{PutFault}

-- what is said of packets, of a put of a packet behind them that failed so, and of a sending of them that failed so
abbrev pub OfPackets : Type 1
OfPackets = List (List ℕ) → Type 0

abbrev pub OfPut : Type 1
OfPut = List (List ℕ) → List ℕ → PutFault → Type 0

abbrev pub OfSending : Type 1
OfSending = List (List ℕ) → PutFault → Type 0

-- So it is said of each list of packets that the sink stood for: of what stands behind it now, of packets behind which the put of a further one
-- failed so, and of packets behind which sending what was kept back failed so, as `unsent` says.
abbrev pub OfSink : {K : Type 0} → sink.Ghosts K → (K → Option (List ℕ) → List (List ℕ) → PutFault → Type 0) → K → K
    → (OfPackets → OfPut → OfSending → Type 0) → Type 0
OfSink puts unsent out out' said = (start : Option (List ℕ)) (before : List (List ℕ)) → puts.holds out start before
    → said (λ ps. puts.holds out' start (before ++ ps)) (λ ps. puts.fails out' start (before ++ ps)) (λ ps. unsent out' start (before ++ ps))

-- a count of the source ran out: of the reads for one packet, or of the packets that it may give
abbrev pub RanOut : {P : Type 0} → source.Ghosts P → P → P → Type 0
RanOut packets network network' =
    Stalled packets.leads packets.counts packets.falls_short network network' ⊎ Exhausted packets.left packets.given network

-- THE DEVICES: where the run went through, all of the source was read, and all was written well; where it stopped, `reading` and `writing`
-- say by its fault what was counted; and where it stopped by this fault, `turns`, a count ran out. What changed of the source and of the sink,
-- reads and puts changed.
pub record DevicesDid {P K R F : Type 0} (packets : source.Ghosts P) (puts : sink.Ghosts K) (turns : F)
    (reading : F → Bool → Bool → Tally → Tally → Type 0) (writing : F → Tally → Tally → Bool → Type 0)
    (network network' : P) (out out' : K) (answer : Result R F) : Type 0 where
  pub read : OnOk answer (SourceCounts false (packets.has_ended network) (packets.has_ended network') (packets.counts network) (packets.counts network'))
  pub wrote : OnOk answer (WentWell (puts.counts out) (puts.counts out'))
  pub read_so : IfErr answer (λ f. reading f (packets.has_ended network) (packets.has_ended network') (packets.counts network) (packets.counts network'))
  pub wrote_so : IfErr answer (λ f. writing f (puts.counts out) (puts.counts out') (puts.is_full out'))
  pub turned : answer ≡ Err turns → RanOut packets network network'
  pub reads : packets.leads network network'
  pub puts_on : puts.leads out out'
