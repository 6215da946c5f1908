use Rattle.std.proofs.Common.{[], ◌++◌, refl, subst, ◌∙◌, None}
use Rattle.std.proofs.lemmas.Result.{on_ok_weaker}
use Rattle.program_follower.specs.Purposes.{writing_cues}
use Rattle.injector.specs.Injecting.{InjectorStandsFor}
use Rattle.services_on_air.proofs.ServiceLemmas.{one-behind}
use Rattle.ad_library.specs.Library.{held}
use Rattle.chain_engine.specs.Passing.{ServiceStandsFor}
use Rattle.injector.specs.Steps.{packets_in}
use Rattle.services_on_air.proofs.GoneLemmas.{report-so, standing-so, anew-so}
use Rattle.services_on_air.proofs.KeptLemmas.{kept-new, kept-out-of}
use Rattle.services_on_air.proofs.service.AirService.begin_anew.Goals as goal

pub returns-clause-stands : goal.returns-clause-stands
returns-clause-stands g c = λ config ss is begun some.
    let stands = c.begin_anew.ensures (λ n. None) in
    let of = c.config-config.ensures ∙ is in
    record {
      config = stands.config ∙ of;
      marks = c.new-self.ensures.keeps (writing_cues config);
      followed = record { steps = []; injector = subst (λ d. InjectorStandsFor c.begin_anew.new.self.injector d []) of stands.injector; packets = refl };
      begun = c.saturating_add-self-2.ensures ∙ one-behind c.args.self.now.begun ss some begun;
    }

pub returns-clause-out : goal.returns-clause-out
returns-clause-out g c = λ t gone start ps filed h is_held.
    let old = c.args.self.now in
    let d = writing_cues t.config in
    let of = c.config-config.ensures ∙ h.airs.config in
    let begins = subst (λ w. ServiceStandsFor c.begin_anew.new.self w t.filed []) of (c.begin_anew.ensures t.filed) in
    let counts = report-so old.service t gone (held c.args.library.now) c.report-report.result filed h.airs (λ x s. c.report-report.ensures.counts t.config x s) in
    let stood = standing-so old.service t gone c.open_count-lost.result h.airs c.open_count-lost.ensures in
    on_ok_weaker c.put-put.result
    (λ out. (anew-so old _ t gone c.report-report.result c.open_count-lost.result begins (kept-new c.new-self-2.result d c.new-self-2.ensures) c.plus-self.ensures counts c.saturating_add-self.ensures stood h, out))
    (kept-out-of old.tail d (packets_in gone.own) c.put-put.result (λ l. g.K.PacketSink.holds c.put-put.new.out start (ps ++ l)) (λ known since stands. c.put-put.ensures.puts known since start ps stands is_held) h.tail)
