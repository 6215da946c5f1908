use Rattle.ts_packet.specs.declared.sink.PutFault.{PutFault}
use Rattle.std.proofs.Common.{◌++◌, ◌∙◌, ℕ, List, sym, subst}
use Rattle.injector.specs.Steps.{cued}
use Rattle.splice_plans.specs.Adverts.{setting_of}
use Rattle.splice_plans.specs.Switching.{rest_at}
use Rattle.splice_plans.specs.Reporting.{ReportIs, report_of}
use Rattle.splice_switch.specs.Standing.{FinishFails}
use Rattle.chain_engine.specs.Passing.{ServiceStandsFor}
use Rattle.chain_services.proofs.RestLemmas.{taken_cued, events_are, one_fails}
use Rattle.chain_services.proofs.finishing.finish_one.Goals as goal

pub returns-in-Err-clause-err : goal.returns-in-Err-clause-err
returns-in-Err-clause-err g c = λ t steps start ps filed h is_held.
    let fails : List (List ℕ) → List ℕ → PutFault → Type 0 = (λ put q x. g.K.PacketSink.fails c.finish.new.out start (ps ++ put) q x) in
    let stands = subst (λ v. ServiceStandsFor c.args.service.now t.config v h.taken) (sym filed) h.stands in
    one_fails c.in-Err.fault c.args.service.now t steps h c.args.events.now.items fails
    (subst (λ v. FinishFails c.in-Err.fault t.config v (cued t.config h.taken) fails) filed (c.in-Err.ensures.err t.config h.taken start ps stands is_held))

pub returns-in-Ok-try_push-clause-ok : goal.returns-in-Ok-try_push-clause-ok
returns-in-Ok-try_push-clause-ok g c = λ t steps start ps filed h is_held.
    let holds = g.K.PacketSink.holds c.finish.new.out start in
    let stands = subst (λ v. ServiceStandsFor c.args.service.now t.config v h.taken) (sym filed) h.stands in
    let told = subst (λ v. ReportIs c.in-Ok.switch (report_of (setting_of t.config v) (cued t.config h.taken))) filed (c.in-Ok.ensures.report t.config h.taken stands) in
    let out = subst (λ v. holds (ps ++ rest_at (setting_of t.config v) (cued t.config h.taken))) filed (c.in-Ok.ensures.ok t.config h.taken start ps stands is_held) in
    let config = c.config-config.ensures ∙ h.stands.config in (
      (_, c.in-Ok-try_push.ensures.ok, events_are c.args.service.now t steps h c.config-config.result c.in-Ok.switch config told),
      subst (λ l. holds (ps ++ rest_at (setting_of t.config t.filed) l)) (taken_cued c.args.service.now t steps h) out,
    )
