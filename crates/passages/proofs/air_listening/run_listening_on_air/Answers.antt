use Rattle.ad_library.specs.Library.{held}
use Rattle.passages.specs.Runs.{Untold}
use Rattle.passages.proofs.PassageLemmas.{if_ok_so}
use Rattle.passages.proofs.AirLemmas.{air_plays_so}
use Rattle.passages.proofs.air_listening.run_listening_on_air.Goals as goal

pub returns-clause-done : goal.returns-clause-done
returns-clause-done g c = λ d start h out. if_ok_so c.run_heard_on_air.result _ _ (λ report. air_plays_so _ Untold (λ ending ts rs few x. tt) (g.K.PacketSink.holds c.run_heard_on_air.new.out start) d (held c.args.library.now) (g.P.PacketSource.left c.args.network.now) report)
    (c.run_heard_on_air.ensures.done d start h out)
