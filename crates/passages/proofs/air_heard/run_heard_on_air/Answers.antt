use Rattle.std.proofs.Common.{[], ◌∙◌, sym}
use Rattle.ad_library.specs.Library.{held}
use Rattle.passages.proofs.PassageLemmas.{heard_alone, if_ok_so}
use Rattle.passages.proofs.AirLemmas.{air_plays, air_plays_so}
use Rattle.passages.proofs.air_heard.run_heard_on_air.Goals as goal

pub returns-then-is_detailed-clause-done : goal.returns-then-is_detailed-clause-done
returns-then-is_detailed-clause-done g c = λ d start h out. if_ok_so c.run_told_on_air.result _ _ (λ report. air_plays_so _ _ (heard_alone c.new-heard.result c.run_told_on_air.new.automation (λ a. a.inner.ghost_name) (λ a. a.inner.now) g.U.Automation.exchanges g.U.Automation.failures
    c.args.automation.now c.automation-1.given.0 c.new-heard.ensures.inner (λ e. c.automation-1.given.1 (sym (e ∙ c.new-heard.ensures.same))))
    (g.K.PacketSink.holds c.run_told_on_air.new.out start) d (held c.args.library.now) (g.P.PacketSource.left c.args.network.now) report)
    (air_plays _ (g.P.PacketSource.left c.args.network.now) (g.K.PacketSink.holds c.run_told_on_air.new.out start) c.run_told_on_air.result d (held c.args.library.now) (λ bs e. c.run_told_on_air.ensures.out d start [] bs h out e) (λ bs e. c.run_told_on_air.ensures.stretches d start [] bs h out e)
    c.run_told_on_air.ensures.bytes)

pub returns-clause-done : goal.returns-clause-done
returns-clause-done g c = λ d start h out. air_plays _ (g.P.PacketSource.left c.args.network.now) (g.K.PacketSink.holds c.run_told_on_air-ended.new.out start) c.run_told_on_air-ended.result d (held c.args.library.now) (λ bs e. c.run_told_on_air-ended.ensures.out d start [] bs h out e) (λ bs e. c.run_told_on_air-ended.ensures.stretches d start [] bs h out e)
    c.run_told_on_air-ended.ensures.bytes
