use Rattle.std.proofs.Common.{◌++◌}
use Rattle.chain_services.specs.Runs.{terms_by}
use Rattle.passages.specs.Runs.{Untold}
use Rattle.passages.proofs.ServingLemmas.{serves, services_stop_so}
use Rattle.passages.proofs.listening.services_listening.Goals as goal

pub returns-in-Ok-clause-ok : goal.returns-in-Ok-clause-ok
returns-in-Ok-clause-ok g c = λ cs start before h held. serves _ _ (λ ending ts rs le x. tt) (terms_by cs c.args.libraries.now) _ _ _ (c.in-Ok.ensures.ok cs start before h held)

pub returns-clause-err : goal.returns-clause-err
returns-clause-err g c = λ cs start before h held. services_stop_so _ Untold (λ ending ts rs le x. tt) (terms_by cs c.args.libraries.now) _ (λ ps. g.K.PacketSink.holds c.services_heard.new.out start (before ++ ps))
    (λ ps. g.K.PacketSink.fails c.services_heard.new.out start (before ++ ps)) (λ ps. g.K.GatheringSink.fails_to_send c.services_heard.new.out start (before ++ ps)) _ (c.in-Err.ensures.err cs start before h held)
