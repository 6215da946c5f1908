use Rattle.std.proofs.Common.{◌++◌, ◌∙◌, sym}
use Rattle.chain_services.specs.Runs.{terms_by}
use Rattle.passages.proofs.PassageLemmas.{heard_alone, if_ok_so, if_err_so}
use Rattle.passages.proofs.ServingLemmas.{ran_so, services_stop_so}
use Rattle.passages.proofs.heard.services_heard.Goals as goal

pub returns-then-is_detailed-clause-ok : goal.returns-then-is_detailed-clause-ok
returns-then-is_detailed-clause-ok g c = λ cs start before h held. if_ok_so c.services_told.result _ _ (λ report. ran_so _ _ (heard_alone c.new-heard.result c.services_told.new.automation (λ a. a.inner.ghost_name) (λ a. a.inner.now) g.U.Automation.exchanges g.U.Automation.failures
    c.args.automation.now c.automation-1.given.0 c.new-heard.ensures.inner (λ e. c.automation-1.given.1 (sym (e ∙ c.new-heard.ensures.same))))
    (terms_by cs c.args.libraries.now) (g.P.PacketSource.left c.args.network.now) _ report) (c.services_told.ensures.ok cs start before h held)

pub returns-then-is_detailed-clause-err : goal.returns-then-is_detailed-clause-err
returns-then-is_detailed-clause-err g c = λ cs start before h held. if_err_so c.services_told.result _ _ (λ f. services_stop_so _ _ (heard_alone c.new-heard.result c.services_told.new.automation (λ a. a.inner.ghost_name) (λ a. a.inner.now) g.U.Automation.exchanges g.U.Automation.failures
    c.args.automation.now c.automation-1.given.0 c.new-heard.ensures.inner (λ e. c.automation-1.given.1 (sym (e ∙ c.new-heard.ensures.same))))
    (terms_by cs c.args.libraries.now) f (λ ps. g.K.PacketSink.holds c.services_told.new.out start (before ++ ps))
    (λ ps. g.K.PacketSink.fails c.services_told.new.out start (before ++ ps)) (λ ps. g.K.GatheringSink.fails_to_send c.services_told.new.out start (before ++ ps))
    (g.P.PacketSource.left c.args.network.now)) (c.services_told.ensures.err cs start before h held)
