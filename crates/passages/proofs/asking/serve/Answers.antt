use Rattle.std.proofs.Common.{[], sym, subst}
use Rattle.chain_services.specs.Runs.{terms_by}
use Rattle.passages.specs.Runs.{AskerTells, Untold}
use Rattle.passages.specs.declared.asking.Asker.TheVariants as asker
use Rattle.passages.proofs.PassageLemmas.{if_ok_so, if_err_so, script_tells}
use Rattle.passages.proofs.ServingLemmas.{serves, serves_so, services_stop_so, serves_stop_so}
use Rattle.passages.proofs.asking.serve.Goals as goal

pub returns-in-Ok-clause-done : goal.returns-in-Ok-clause-done
returns-in-Ok-clause-done g c = λ cs start h held. serves _ (AskerTells g.W.Write.contents c.args.asker.now (asker.Script c.services_heard.new.automation))
    (λ ending ts rs few x. subst (λ a. AskerTells g.W.Write.contents a (asker.Script c.services_heard.new.automation) ending ts rs) (sym c.in-Script.is) (script_tells g.W.Write.contents c.in-Script.script c.services_heard.new.automation ending ts rs few x.exchanges))
    (terms_by cs c.args.libraries.now) _ _ _ (c.in-Ok.ensures.ok cs start [] h held)

pub returns-in-Err-clause-stop : goal.returns-in-Err-clause-stop
returns-in-Err-clause-stop g c = λ cs start h held. services_stop_so _ (AskerTells g.W.Write.contents c.args.asker.now (asker.Script c.services_heard.new.automation))
    (λ ending ts rs few x. subst (λ a. AskerTells g.W.Write.contents a (asker.Script c.services_heard.new.automation) ending ts rs) (sym c.in-Script.is) (script_tells g.W.Write.contents c.in-Script.script c.services_heard.new.automation ending ts rs few x.exchanges))
    (terms_by cs c.args.libraries.now) _ (g.K.PacketSink.holds c.services_heard.new.out start) (g.K.PacketSink.fails c.services_heard.new.out start)
    (g.K.GatheringSink.fails_to_send c.services_heard.new.out start) _ (c.in-Err.ensures.err cs start [] h held)

pub returns-in-Port-clause-done : goal.returns-in-Port-clause-done
returns-in-Port-clause-done g c = λ cs start h held. if_ok_so c.services_listening.result _ _
    (λ report. serves_so Untold (AskerTells g.W.Write.contents c.args.asker.now (asker.Port c.in-Port.listener)) (λ ending ts rs few x. subst (λ a. AskerTells g.W.Write.contents a (asker.Port c.in-Port.listener) ending ts rs) (sym c.in-Port.is) (tt, tt)) (terms_by cs c.args.libraries.now) _ _ report) (c.services_listening.ensures.ok cs start [] h held)

pub returns-in-Port-clause-stop : goal.returns-in-Port-clause-stop
returns-in-Port-clause-stop g c = λ cs start h held. if_err_so c.services_listening.result _ _
    (λ fault. serves_stop_so Untold (AskerTells g.W.Write.contents c.args.asker.now (asker.Port c.in-Port.listener)) (λ ending ts rs few x. subst (λ a. AskerTells g.W.Write.contents a (asker.Port c.in-Port.listener) ending ts rs) (sym c.in-Port.is) (tt, tt)) (terms_by cs c.args.libraries.now) fault _ (g.K.PacketSink.holds c.services_listening.new.out start)
    (g.K.PacketSink.fails c.services_listening.new.out start)
    (g.K.GatheringSink.fails_to_send c.services_listening.new.out start)) (c.services_listening.ensures.err cs start [] h held)
