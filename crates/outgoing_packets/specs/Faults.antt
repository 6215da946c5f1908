-- What a fault of the network or of the sink says of the sink, for all that passes a network on.
use Rattle.std.specs.Prelude.{◌≡◌, Bool, true, Result, Ok, Err}
use Rattle.ts_packet.specs.declared.tally.Tally.{Tally}
use Rattle.ts_packet.specs.Sinks.{Blamed}
use Rattle.psi_tables.specs.declared.network.FeedFault.{FeedFault}
use Rattle.psi_tables.specs.declared.network.FeedFault.TheVariants.{Network, Sink, Failed}

-- what the calls of the sink's device came to
abbrev pub FeedBlamed : FeedFault → Tally → Tally → Bool → Type 0
FeedBlamed (Network fault) old new full = new ≡ old
FeedBlamed (Sink fault) old new full = Blamed fault old new full
FeedBlamed Failed old new full = new ≡ old

-- where the network is at fault, or a fault was answered before, the sink is as it was
abbrev pub KeepsSink : {S : Type 0} → FeedFault → S → S → Type 0
KeepsSink (Network fault) old new = new ≡ old
KeepsSink (Sink fault) old new = Unit {0}
KeepsSink Failed old new = new ≡ old

-- once a fault was answered it stays so
abbrev pub is_err_or : Result (Unit {0}) FeedFault → Bool → Bool
is_err_or (Ok u) before = before
is_err_or (Err e) before = true
