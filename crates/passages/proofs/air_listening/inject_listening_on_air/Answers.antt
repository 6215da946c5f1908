use Rattle.passages.specs.Runs.{Untold}
use Rattle.passages.proofs.PassageLemmas.{if_ok_so}
use Rattle.passages.proofs.AirLemmas.{air_cues_so}
use Rattle.passages.proofs.air_listening.inject_listening_on_air.Goals as goal

pub returns-clause-done : goal.returns-clause-done
returns-clause-done g c = λ d start h out. if_ok_so c.inject_heard_on_air.result _ _ (λ report. air_cues_so _ Untold (λ ending ts rs few x. tt) (g.K.PacketSink.holds c.inject_heard_on_air.new.out start) d (g.P.PacketSource.left c.args.network.now) report)
    (c.inject_heard_on_air.ensures.done d start h out)
