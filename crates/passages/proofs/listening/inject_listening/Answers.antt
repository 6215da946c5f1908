use Rattle.std.proofs.Common.{◌++◌}
use Rattle.chain_engine.proofs.ForgetLemmas.{stops_so}
use Rattle.passages.proofs.PassageLemmas.{cues}
use Rattle.passages.proofs.listening.inject_listening.Goals as goal

pub returns-in-Ok-clause-ok : goal.returns-in-Ok-clause-ok
returns-in-Ok-clause-ok g c = λ d start before h held. cues _ _ (λ ending ts rs le x. tt) d _ _ _ (c.in-Ok.ensures.ok d start before h held)

pub returns-clause-err : goal.returns-clause-err
returns-clause-err g c = λ d start before h held. stops_so d _ _ (λ e ts rs le x. tt) _ _ (λ ps. g.K.PacketSink.holds c.inject_heard.new.out start (before ++ ps))
    (λ ps. g.K.PacketSink.fails c.inject_heard.new.out start (before ++ ps)) (λ ps. g.K.GatheringSink.fails_to_send c.inject_heard.new.out start (before ++ ps)) (c.in-Err.ensures.err d start before h held)
