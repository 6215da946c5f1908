use Rattle.std.proofs.Common.{◌≡◌, ℕ, List, [], ◌++◌, ◌∙◌, None, Some, refl, sym, ap, subst}
use Rattle.std.proofs.lemmas.Result.{IfOk-weaker}
use Rattle.program_follower.specs.Purposes.{writing_cues}
use Rattle.chain_engine.specs.Chains.{ChainStandsFor}
use Rattle.chain_engine.specs.Runs.{reply_in, sent_by, Exchanged, Injected}
use Rattle.chain_engine.specs.Stages.{InjectsFor, InjectEnds}
use Rattle.chain_engine.proofs.RunLemmas.{begun}
use Rattle.chain_engine.proofs.StageLemmas.{injects_all}
use Rattle.on_air.specs.Plain.{IsSound}
use Rattle.on_air.specs.AirRuns.{TellsStretches}
use Rattle.on_air.specs.AirInjects.{InjectedOnAir}
use Rattle.on_air.proofs.InjectLemmas.{injected-on-air}
use Rattle.run_events.proofs.air_runs.inject_told_on_air.Goals as goal

pub returns-clause-sound : goal.returns-clause-sound
returns-clause-sound g c = λ d start before bs h is_held given sound.
    let stage = c.new-stage.result in
    let cfg = stage.chain.now.service.config in
    let here = subst (λ w. ChainStandsFor w w.service.config) (sym c.new-stage.ensures.chain) (subst (ChainStandsFor c.args.chain) (sym h.config) h) in
    let config = ap (λ w. w.service.config) c.new-stage.ensures.chain ∙ h.config in
    let begins = begun g.U.Automation.exchanges g.met.U.Automation.exchanges_refl g.met.U.Automation.exchanges_trans g.U.Automation.failures (InjectsFor cfg) (reply_in cfg) stage.chain.now.service stage.chain.now.talk
    (λ steps. sent_by cfg steps ≡ []) stage.automation.now here.talk (here.service (λ n. None)).injector refl in
    let is_out = (λ (qs : List (List ℕ)). g.K.PacketSink.holds c.run_air_told.new.out start (before ++ qs)) in
    let faultless = subst (λ w. IsSound (writing_cues w) bs) (sym config) sound in
    let ran = c.run_air_told.ensures.sound start before bs (λ kept. record { begins = here; run = begins }) is_held given faultless in
    let named = c.run_air_told.ensures.stage.0 ∙ c.new-stage.ensures.same in
    IfOk-weaker c.run_air_told.result _ _ (λ told w.
    let exchanged = (λ (x : g.row.U.Denot). Exchanged g.U.Automation.exchanges g.U.Automation.failures x c.run_air_told.new.stage.automation.now) in
    let all = injects_all c.run_air_told.new.stage is_out cfg (exchanged stage.automation.now) (λ ps sent report end. InjectEnds cfg (exchanged stage.automation.now) ps sent report) (λ ps sent report e. e) (Some bs) w.report (record {
      sound = faultless;
      sent = w.sent;
      ends_so = w.ends_so;
      out = w.out;
    }) in
    record {
      report = w.report;
      ran_so = subst (λ x. Injected d bs is_out (Exchanged g.U.Automation.exchanges g.U.Automation.failures c.args.automation.now x) w.report) (sym (c.automation-1.given.1 (sym named)))
          (subst (λ x. Injected d bs is_out (exchanged x) w.report) c.new-stage.ensures.automation
          (subst (λ x. Injected x bs is_out (exchanged stage.automation.now) w.report) config all));
      tells = w.tells;
    }) ran

pub returns-clause-stretches : goal.returns-clause-stretches
returns-clause-stretches g c = λ d start before bs h is_held given.
    let stage = c.new-stage.result in
    let cfg = stage.chain.now.service.config in
    let here = subst (λ w. ChainStandsFor w w.service.config) (sym c.new-stage.ensures.chain) (subst (ChainStandsFor c.args.chain) (sym h.config) h) in
    let begins = begun g.U.Automation.exchanges g.met.U.Automation.exchanges_refl g.met.U.Automation.exchanges_trans g.U.Automation.failures (InjectsFor cfg) (reply_in cfg) stage.chain.now.service stage.chain.now.talk
    (λ steps. sent_by cfg steps ≡ []) stage.automation.now here.talk (here.service (λ n. None)).injector refl in
    let config = (c.new-stage.ensures.config ∙ c.config-config.ensures) ∙ h.config in
    let same = ap (λ w. w.service.config) c.new-stage.ensures.chain ∙ sym (c.new-stage.ensures.config ∙ c.config-config.ensures) in
    IfOk-weaker c.run_air_told.result _ _ (λ told w. subst (λ x. TellsStretches told (writing_cues x) bs) config w)
    (c.run_air_told.ensures.stretches (writing_cues stage.config.now) start before bs (refl, same) (λ kept. record { begins = here; run = begins }) is_held given)

pub returns-clause-out : goal.returns-clause-out
returns-clause-out g c = λ d start before bs h is_held given.
    let stage = c.new-stage.result in
    let cfg = stage.chain.now.service.config in
    let here = subst (λ w. ChainStandsFor w w.service.config) (sym c.new-stage.ensures.chain) (subst (ChainStandsFor c.args.chain) (sym h.config) h) in
    let begins = begun g.U.Automation.exchanges g.met.U.Automation.exchanges_refl g.met.U.Automation.exchanges_trans g.U.Automation.failures (InjectsFor cfg) (reply_in cfg) stage.chain.now.service stage.chain.now.talk
    (λ steps. sent_by cfg steps ≡ []) stage.automation.now here.talk (here.service (λ n. None)).injector refl in
    let config = ap (λ w. w.service.config) c.new-stage.ensures.chain ∙ h.config in
    let same = ap (λ w. w.service.config) c.new-stage.ensures.chain ∙ sym (c.new-stage.ensures.config ∙ c.config-config.ensures) in
    let is_out = (λ (qs : List (List ℕ)). g.K.PacketSink.holds c.run_air_told.new.out start (before ++ qs)) in
    let named = c.run_air_told.ensures.stage.0 ∙ c.new-stage.ensures.same in
    IfOk-weaker c.run_air_told.result _ _ (λ told w.
    let exchanged = (λ (x : g.row.U.Denot). Exchanged g.U.Automation.exchanges g.U.Automation.failures x c.run_air_told.new.stage.automation.now) in
    let all = injected-on-air cfg (writing_cues stage.config.now) (ap writing_cues (sym same)) c.run_air_told.new.stage.chain.now (exchanged stage.automation.now) bs is_out w.told w.sent w.last told.report w.tells_so w.summed_so w.out in
    subst (λ x. InjectedOnAir d bs is_out (Exchanged g.U.Automation.exchanges g.U.Automation.failures c.args.automation.now x) told.report) (sym (c.automation-1.given.1 (sym named)))
    (subst (λ x. InjectedOnAir d bs is_out (exchanged x) told.report) c.new-stage.ensures.automation
    (subst (λ x. InjectedOnAir x bs is_out (exchanged stage.automation.now) told.report) config all)))
    (c.run_air_told.ensures.out (writing_cues stage.config.now) start before bs (refl, same) tt (λ kept. record { begins = here; run = begins }) is_held given)
