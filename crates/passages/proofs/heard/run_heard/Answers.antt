use Rattle.std.proofs.Common.{◌++◌, ◌∙◌, sym}
use Rattle.ad_library.specs.Library.{held}
use Rattle.chain_engine.proofs.ForgetLemmas.{chain_stops_so}
use Rattle.passages.proofs.PassageLemmas.{heard_alone, runs_so, if_ok_so, if_err_so}
use Rattle.passages.proofs.heard.run_heard.Goals as goal

pub returns-then-is_detailed-clause-ok : goal.returns-then-is_detailed-clause-ok
returns-then-is_detailed-clause-ok g c = λ d start before h out. if_ok_so c.run_told.result _ _ (λ report. runs_so _ _ (heard_alone c.new-heard.result c.run_told.new.automation (λ a. a.inner.ghost_name) (λ a. a.inner.now) g.U.Automation.exchanges g.U.Automation.failures
    c.args.automation.now c.automation-1.given.0 c.new-heard.ensures.inner (λ e. c.automation-1.given.1 (sym (e ∙ c.new-heard.ensures.same))))
    d (held c.args.library.now) (g.P.PacketSource.left c.args.network.now) _ report) (c.run_told.ensures.ok d start before h out)

pub returns-then-is_detailed-clause-err : goal.returns-then-is_detailed-clause-err
returns-then-is_detailed-clause-err g c = λ d start before h out. if_err_so c.run_told.result _ _ (λ f. chain_stops_so d _ _ (heard_alone c.new-heard.result c.run_told.new.automation (λ a. a.inner.ghost_name) (λ a. a.inner.now) g.U.Automation.exchanges g.U.Automation.failures
    c.args.automation.now c.automation-1.given.0 c.new-heard.ensures.inner (λ e. c.automation-1.given.1 (sym (e ∙ c.new-heard.ensures.same))))
    (held c.args.library.now) f (g.P.PacketSource.left c.args.network.now) (λ ps. g.K.PacketSink.holds c.run_told.new.out start (before ++ ps))
    (λ ps. g.K.PacketSink.fails c.run_told.new.out start (before ++ ps)) (λ ps. g.K.GatheringSink.fails_to_send c.run_told.new.out start (before ++ ps))) (c.run_told.ensures.err d start before h out)
