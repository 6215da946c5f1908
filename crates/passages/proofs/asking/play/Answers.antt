use Rattle.ad_library.specs.Library.{held}
use Rattle.std.proofs.Common.{[], sym, subst}
use Rattle.chain_engine.proofs.ForgetLemmas.{chain_stops_so}
use Rattle.passages.specs.Runs.{AskerTells, Untold}
use Rattle.passages.specs.declared.asking.Asker.TheVariants as asker
use Rattle.passages.proofs.PassageLemmas.{plays, plays_so, plays_stop_so, if_ok_so, if_err_so, script_tells}
use Rattle.passages.proofs.asking.play.Goals as goal

pub returns-in-Ok-clause-done : goal.returns-in-Ok-clause-done
returns-in-Ok-clause-done g c = λ d start h held. plays _ (AskerTells g.W.Write.contents c.args.asker.now (asker.Script c.run_heard.new.automation))
    (λ ending ts rs few x. subst (λ a. AskerTells g.W.Write.contents a (asker.Script c.run_heard.new.automation) ending ts rs) (sym c.in-Script.is) (script_tells g.W.Write.contents c.in-Script.script c.run_heard.new.automation ending ts rs few x.exchanges))
    d _ _ _ _ (c.in-Ok.ensures.ok d start [] h held)

pub returns-in-Err-clause-stop : goal.returns-in-Err-clause-stop
returns-in-Err-clause-stop g c = λ d start h out. chain_stops_so d _ (AskerTells g.W.Write.contents c.args.asker.now (asker.Script c.run_heard.new.automation))
    (λ ending ts rs few x. subst (λ a. AskerTells g.W.Write.contents a (asker.Script c.run_heard.new.automation) ending ts rs) (sym c.in-Script.is) (script_tells g.W.Write.contents c.in-Script.script c.run_heard.new.automation ending ts rs few x.exchanges))
    (held c.args.library.now) _ _ (g.K.PacketSink.holds c.run_heard.new.out start) (g.K.PacketSink.fails c.run_heard.new.out start)
    (g.K.GatheringSink.fails_to_send c.run_heard.new.out start) (c.in-Err.ensures.err d start [] h out)

pub returns-in-Port-clause-done : goal.returns-in-Port-clause-done
returns-in-Port-clause-done g c = λ d start h out. if_ok_so c.run_listening.result _ _
    (λ report. plays_so Untold (AskerTells g.W.Write.contents c.args.asker.now (asker.Port c.in-Port.listener)) (λ ending ts rs few x. subst (λ a. AskerTells g.W.Write.contents a (asker.Port c.in-Port.listener) ending ts rs) (sym c.in-Port.is) (tt, tt)) d (held c.args.library.now) _ _ report) (c.run_listening.ensures.ok d start [] h out)

pub returns-in-Port-clause-stop : goal.returns-in-Port-clause-stop
returns-in-Port-clause-stop g c = λ d start h out. if_err_so c.run_listening.result _ _
    (λ fault. plays_stop_so Untold (AskerTells g.W.Write.contents c.args.asker.now (asker.Port c.in-Port.listener)) (λ ending ts rs few x. subst (λ a. AskerTells g.W.Write.contents a (asker.Port c.in-Port.listener) ending ts rs) (sym c.in-Port.is) (tt, tt)) d (held c.args.library.now) fault _ (g.K.PacketSink.holds c.run_listening.new.out start)
    (g.K.PacketSink.fails c.run_listening.new.out start)
    (g.K.GatheringSink.fails_to_send c.run_listening.new.out start)) (c.run_listening.ensures.err d start [] h out)
