use Rattle.chain_services.specs.Runs.{terms_by}
use Rattle.passages.specs.Runs.{Untold}
use Rattle.passages.proofs.PassageLemmas.{if_ok_so}
use Rattle.passages.proofs.AirLemmas.{air_serves_so}
use Rattle.passages.proofs.air_listening.services_listening_on_air.Goals as goal

pub returns-clause-done : goal.returns-clause-done
returns-clause-done g c = λ cs start stands begins long out. if_ok_so c.services_heard_on_air.result _ _ (λ report. air_serves_so _ Untold (λ ending ts rs few x. tt) (g.K.PacketSink.holds c.services_heard_on_air.new.out start) (terms_by cs c.args.libraries.now) (g.P.PacketSource.left c.args.network.now) report)
    (c.services_heard_on_air.ensures.done cs start stands begins long out)
