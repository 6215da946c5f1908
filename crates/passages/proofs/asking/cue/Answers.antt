use Rattle.std.proofs.Common.{[], sym, subst}
use Rattle.chain_engine.proofs.ForgetLemmas.{stops_so}
use Rattle.passages.specs.Runs.{AskerTells, Untold}
use Rattle.passages.specs.declared.asking.Asker.TheVariants as asker
use Rattle.passages.proofs.PassageLemmas.{cues, cues_so, cues_stop_so, if_ok_so, if_err_so, script_tells}
use Rattle.passages.proofs.asking.cue.Goals as goal

pub returns-in-Ok-clause-done : goal.returns-in-Ok-clause-done
returns-in-Ok-clause-done g c = λ d start h held. cues _ (AskerTells g.W.Write.contents c.args.asker.now (asker.Script c.inject_heard.new.automation))
    (λ ending ts rs few x. subst (λ a. AskerTells g.W.Write.contents a (asker.Script c.inject_heard.new.automation) ending ts rs) (sym c.in-Script.is) (script_tells g.W.Write.contents c.in-Script.script c.inject_heard.new.automation ending ts rs few x.exchanges))
    d _ _ _ (c.in-Ok.ensures.ok d start [] h held)

pub returns-in-Err-clause-stop : goal.returns-in-Err-clause-stop
returns-in-Err-clause-stop g c = λ d start h held. stops_so d _ (AskerTells g.W.Write.contents c.args.asker.now (asker.Script c.inject_heard.new.automation))
    (λ ending ts rs few x. subst (λ a. AskerTells g.W.Write.contents a (asker.Script c.inject_heard.new.automation) ending ts rs) (sym c.in-Script.is) (script_tells g.W.Write.contents c.in-Script.script c.inject_heard.new.automation ending ts rs few x.exchanges))
    _ _ (g.K.PacketSink.holds c.inject_heard.new.out start) (g.K.PacketSink.fails c.inject_heard.new.out start)
    (g.K.GatheringSink.fails_to_send c.inject_heard.new.out start) (c.in-Err.ensures.err d start [] h held)

pub returns-in-Port-clause-done : goal.returns-in-Port-clause-done
returns-in-Port-clause-done g c = λ d start h held. if_ok_so c.inject_listening.result _ _
    (λ report. cues_so Untold (AskerTells g.W.Write.contents c.args.asker.now (asker.Port c.in-Port.listener)) (λ ending ts rs few x. subst (λ a. AskerTells g.W.Write.contents a (asker.Port c.in-Port.listener) ending ts rs) (sym c.in-Port.is) (tt, tt)) d _ _ report) (c.inject_listening.ensures.ok d start [] h held)

pub returns-in-Port-clause-stop : goal.returns-in-Port-clause-stop
returns-in-Port-clause-stop g c = λ d start h held. if_err_so c.inject_listening.result _ _
    (λ fault. cues_stop_so Untold (AskerTells g.W.Write.contents c.args.asker.now (asker.Port c.in-Port.listener)) (λ ending ts rs few x. subst (λ a. AskerTells g.W.Write.contents a (asker.Port c.in-Port.listener) ending ts rs) (sym c.in-Port.is) (tt, tt)) d fault _ (g.K.PacketSink.holds c.inject_listening.new.out start)
    (g.K.PacketSink.fails c.inject_listening.new.out start)
    (g.K.GatheringSink.fails_to_send c.inject_listening.new.out start)) (c.inject_listening.ensures.err d start [] h held)
