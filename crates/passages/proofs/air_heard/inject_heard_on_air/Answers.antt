use Rattle.std.proofs.Common.{[], ◌∙◌, sym}
use Rattle.passages.proofs.PassageLemmas.{heard_alone, if_ok_so}
use Rattle.passages.proofs.AirLemmas.{air_cues, air_cues_so}
use Rattle.passages.proofs.air_heard.inject_heard_on_air.Goals as goal

pub returns-then-is_detailed-clause-done : goal.returns-then-is_detailed-clause-done
returns-then-is_detailed-clause-done g c = λ d start h out. if_ok_so c.inject_told_on_air.result _ _ (λ report. air_cues_so _ _ (heard_alone c.new-heard.result c.inject_told_on_air.new.automation (λ a. a.inner.ghost_name) (λ a. a.inner.now) g.U.Automation.exchanges g.U.Automation.failures
    c.args.automation.now c.automation-1.given.0 c.new-heard.ensures.inner (λ e. c.automation-1.given.1 (sym (e ∙ c.new-heard.ensures.same))))
    (g.K.PacketSink.holds c.inject_told_on_air.new.out start) d (g.P.PacketSource.left c.args.network.now) report)
    (air_cues _ (g.P.PacketSource.left c.args.network.now) (g.K.PacketSink.holds c.inject_told_on_air.new.out start) c.inject_told_on_air.result d (λ bs e. c.inject_told_on_air.ensures.out d start [] bs h out e) (λ bs e. c.inject_told_on_air.ensures.stretches d start [] bs h out e))

pub returns-clause-done : goal.returns-clause-done
returns-clause-done g c = λ d start h out. air_cues _ (g.P.PacketSource.left c.args.network.now) (g.K.PacketSink.holds c.inject_told_on_air-ended.new.out start) c.inject_told_on_air-ended.result d (λ bs e. c.inject_told_on_air-ended.ensures.out d start [] bs h out e) (λ bs e. c.inject_told_on_air-ended.ensures.stretches d start [] bs h out e)
