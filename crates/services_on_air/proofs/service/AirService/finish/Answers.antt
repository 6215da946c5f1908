use Rattle.std.proofs.Common.{◌++◌, sym, subst}
use Rattle.ad_library.specs.Library.{held}
use Rattle.splice_plans.specs.Adverts.{setting_of}
use Rattle.splice_plans.specs.Stepping.{puts_last}
use Rattle.splice_plans.specs.Reporting.{ReportIs}
use Rattle.splice_switch.specs.Standing.{SwitchStandsAt}
use Rattle.chain_engine.specs.Switched.{journey_of}
use Rattle.services_on_air.specs.Histories.{counts_by, counts_to_end}
use Rattle.services_on_air.proofs.GoneLemmas.{report-so, summed-so}
use Rattle.services_on_air.proofs.service.AirService.finish.Goals as goal

pub returns-in-Ok-clause-puts : goal.returns-in-Ok-clause-puts
returns-in-Ok-clause-puts g c = λ t gone start ps filed h is_held.
    let k = setting_of t.config t.filed in
    let x = journey_of k gone.fed in
    let old = c.args.self.now in
    let stands = subst (λ w. SwitchStandsAt old.service.switch t.config w x) (sym filed) h.airs.switch in
    let out = subst (λ w. g.K.PacketSink.holds c.finish.new.out start (ps ++ puts_last (setting_of t.config w) x)) filed (c.in-Ok.ensures.puts t.config x start ps stands is_held) in
    let last = report-so old.service t gone (held c.args.library.now) c.in-Ok.last filed h.airs (λ y s. c.in-Ok.ensures.counts t.config y s) in
    (out, subst (λ r. ReportIs r (counts_to_end t gone)) (sym c.plus.ensures) (summed-so old.ended c.in-Ok.last gone.counted (counts_by t gone.own) h.counted last))
