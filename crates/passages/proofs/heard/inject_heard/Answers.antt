use Rattle.std.proofs.Common.{◌++◌, ◌∙◌, sym}
use Rattle.chain_engine.proofs.ForgetLemmas.{injects_so, stops_so}
use Rattle.passages.proofs.PassageLemmas.{heard_alone, if_ok_so, if_err_so}
use Rattle.passages.proofs.heard.inject_heard.Goals as goal

pub returns-then-is_detailed-clause-ok : goal.returns-then-is_detailed-clause-ok
returns-then-is_detailed-clause-ok g c = λ d start before h held. if_ok_so c.inject_told.result _ _ (λ report. injects_so d _ _ (heard_alone c.new-heard.result c.inject_told.new.automation (λ a. a.inner.ghost_name) (λ a. a.inner.now) g.U.Automation.exchanges g.U.Automation.failures
    c.args.automation.now c.automation-1.given.0 c.new-heard.ensures.inner (λ e. c.automation-1.given.1 (sym (e ∙ c.new-heard.ensures.same))))
    (g.P.PacketSource.left c.args.network.now) _ _ report (λ ps w. w)) (c.inject_told.ensures.ok d start before h held)

pub returns-then-is_detailed-clause-err : goal.returns-then-is_detailed-clause-err
returns-then-is_detailed-clause-err g c = λ d start before h held. if_err_so c.inject_told.result _ _ (λ f. stops_so d _ _ (heard_alone c.new-heard.result c.inject_told.new.automation (λ a. a.inner.ghost_name) (λ a. a.inner.now) g.U.Automation.exchanges g.U.Automation.failures
    c.args.automation.now c.automation-1.given.0 c.new-heard.ensures.inner (λ e. c.automation-1.given.1 (sym (e ∙ c.new-heard.ensures.same))))
    f (g.P.PacketSource.left c.args.network.now) (λ ps. g.K.PacketSink.holds c.inject_told.new.out start (before ++ ps))
    (λ ps. g.K.PacketSink.fails c.inject_told.new.out start (before ++ ps)) (λ ps. g.K.GatheringSink.fails_to_send c.inject_told.new.out start (before ++ ps))) (c.inject_told.ensures.err d start before h held)
