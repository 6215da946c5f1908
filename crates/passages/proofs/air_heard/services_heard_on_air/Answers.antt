use Rattle.std.proofs.Common.{[], ◌∙◌, sym}
use Rattle.chain_services.specs.Runs.{terms_by}
use Rattle.passages.proofs.PassageLemmas.{heard_alone, if_ok_so}
use Rattle.passages.proofs.AirLemmas.{air_serves, air_serves_so}
use Rattle.passages.proofs.air_heard.services_heard_on_air.Goals as goal

pub returns-then-is_detailed-clause-done : goal.returns-then-is_detailed-clause-done
returns-then-is_detailed-clause-done g c = λ cs start stands begins long out. if_ok_so c.services_told_on_air.result _ _ (λ report. air_serves_so _ _ (heard_alone c.new-heard.result c.services_told_on_air.new.automation (λ a. a.inner.ghost_name) (λ a. a.inner.now) g.U.Automation.exchanges g.U.Automation.failures
    c.args.automation.now c.automation-1.given.0 c.new-heard.ensures.inner (λ e. c.automation-1.given.1 (sym (e ∙ c.new-heard.ensures.same))))
    (g.K.PacketSink.holds c.services_told_on_air.new.out start) (terms_by cs c.args.libraries.now) (g.P.PacketSource.left c.args.network.now) report)
    (air_serves _ (g.P.PacketSource.left c.args.network.now) (g.K.PacketSink.holds c.services_told_on_air.new.out start) c.args.services c.services_told_on_air.result cs c.args.libraries.now stands begins long
    (λ ts bs st be filed e. c.services_told_on_air.ensures.out ts start [] bs st be filed out e) (λ bs e. c.services_told_on_air.ensures.stretches cs bs stands long e))

pub returns-clause-done : goal.returns-clause-done
returns-clause-done g c = λ cs start stands begins long out. air_serves _ (g.P.PacketSource.left c.args.network.now) (g.K.PacketSink.holds c.services_told_on_air-ended.new.out start) c.args.services c.services_told_on_air-ended.result cs c.args.libraries.now stands begins long
    (λ ts bs st be filed e. c.services_told_on_air-ended.ensures.out ts start [] bs st be filed out e) (λ bs e. c.services_told_on_air-ended.ensures.stretches cs bs stands long e)
