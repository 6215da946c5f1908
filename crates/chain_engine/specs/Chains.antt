-- What a chain stands for before its run, and what is said of one that begins.
use Rattle.std.specs.Prelude.{◌≡◌, ℕ, false, List, [], ◌++◌, Option}
use Rattle.ts_packet.specs.declared.sink.PacketSink as sink
use Rattle.ts_packet.specs.declared.sink.PutFault.{PutFault}
use Rattle.packet_runs.specs.Devices.{OfPackets, OfPut, OfSending}
use Rattle.psi_tables.specs.declared.config.Config.{Config}
use Rattle.ad_library.specs.Advertisements.{Advertisement}
use Rattle.chain_engine.specs.Passing.{ServiceStandsFor}
use Rattle.chain_engine.specs.Talks.{TalkStandsFor}
use Rattle.chain_engine.specs.declared.chain.Chain.{Chain}

-- it was given nothing
pub record ChainStandsFor {M : Type 0} (chain : Chain M) (c : Config) : Type 0 where
  pub talk : TalkStandsFor chain.talk [] 0 0
  pub service : (filed : ℕ → Option Advertisement) → ServiceStandsFor chain.service c filed []
  pub config : chain.service.config ≡ c
  pub whole : chain.is_spent ≡ false

-- So it is said of a run by each configuration that its chain stands for, and of its sink as `OfSink` says it.
abbrev pub OfChain : {M K : Type 0} → Chain M → sink.Ghosts K → (K → Option (List ℕ) → List (List ℕ) → PutFault → Type 0) → K → K
    → (Config → OfPackets → OfPut → OfSending → Type 0) → Type 0
OfChain chain puts unsent out out' said = (c : Config) (start : Option (List ℕ)) (before : List (List ℕ)) → ChainStandsFor chain c
    → puts.holds out start before
    → said c (λ ps. puts.holds out' start (before ++ ps)) (λ ps. puts.fails out' start (before ++ ps)) (λ ps. unsent out' start (before ++ ps))
