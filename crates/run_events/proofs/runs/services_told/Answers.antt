use Rattle.std.proofs.Common.{◌≡◌, Err, List, ◌++◌, ◌∙◌, length, ℕ, refl, sym, ap, subst}
use Rattle.std.specs.Prelude.{IfSome, None}
use Rattle.packet_runs.specs.Stops as stops
use Rattle.chain_engine.specs.Stops.{run_cause}
use Rattle.chain_engine.specs.Runs.{Exchanged, OutputBlamed}
use Rattle.chain_engine.specs.Splices.{NetworkBlamedToEnd}
use Rattle.chain_engine.specs.declared.faults.RunFault.TheVariants.{Read}
use Rattle.chain_engine.proofs.ProgressLemmas.{end_progresses, stop_progresses}
use Rattle.service_laws.specs.Services.{configs_of}
use Rattle.service_laws.specs.Faults.{services_test, first_services_fault}
use Rattle.chain_services.specs.Serving.{services_in}
use Rattle.chain_services.specs.Runs.{ServicesStandFor, ServicesRunAll, ServicesLeave, ServicesStop, terms_by}
use Rattle.chain_services.specs.Stages.{services_fault_of, terms_in}
use Rattle.chain_services.proofs.IsolationLemmas.{isolates_by}
use Rattle.chain_services.proofs.BeginLemmas.{services_begin, configs_are, configs_by, as_many}
use Rattle.chain_services.proofs.StageLemmas.{services_run_all, services_leave, stops_by, none_by, services_fail, services_sound, network_blamed, output_blamed, turns_of}
use Rattle.run_events.proofs.runs.services_told.Goals as goal

pub returns-in-Ok-clause-ok : goal.returns-in-Ok-clause-ok
returns-in-Ok-clause-ok g c = λ cs start before h is_held.
    let stage = c.new-stage.result in
    let services = stage.services.now in
    let libraries = stage.libraries.now in
    let ts = terms_in services.desk libraries in
    let same = c.new-stage.ensures.services in
    let library = c.new-stage.ensures.libraries in
    let many = ap length library ∙ c.requires.libraries ∙ ap (λ w. length (services_in w.desk)) (sym same) in
    let is_out = (λ (qs : List (List ℕ)). g.K.PacketSink.holds c.run_stage_told.new.out start (before ++ qs)) in
    let exchanged = (λ (x : g.row.U.Denot). Exchanged g.U.Automation.exchanges g.U.Automation.failures x c.run_stage_told.new.stage.automation.now) in
    let begins = services_begin g.U.Automation.exchanges g.met.U.Automation.exchanges_refl g.met.U.Automation.exchanges_trans g.U.Automation.failures services cs libraries stage.automation.now
    (subst (λ w. ServicesStandFor w cs) (sym same) h) many in
    let terms : ts ≡ terms_by cs c.args.libraries.now = ap (λ w. terms_in w.desk libraries) same ∙ ap (λ l. terms_in c.args.services.desk l) library ∙ ap (λ w. terms_by w c.args.libraries.now) (configs_are c.args.services cs h) in
    let through = c.in-Ok.ensures.ok start before (λ kept. (refl, begins)) is_held in
    let all = services_run_all c.run_stage_told.new.stage is_out ts (exchanged stage.automation.now) _ (λ ps sent report e. e) _ c.in-Ok.report through in
    let done = subst (λ x. ServicesRunAll (terms_by cs c.args.libraries.now) (g.P.PacketSource.left c.args.network.now) is_out (exchanged x) c.in-Ok.report) c.new-stage.ensures.automation
    (subst (λ us. ServicesRunAll us (g.P.PacketSource.left c.args.network.now) is_out (exchanged stage.automation.now) c.in-Ok.report) terms all) in
    let named = c.in-Ok.ensures.stage ∙ c.new-stage.ensures.same in
    subst (λ x. ServicesRunAll (terms_by cs c.args.libraries.now) (g.P.PacketSource.left c.args.network.now) is_out (Exchanged g.U.Automation.exchanges g.U.Automation.failures c.args.automation.now x) c.in-Ok.report)
    (sym (c.automation-1.given.1 (sym named))) done

pub returns-in-Ok-clause-isolated : goal.returns-in-Ok-clause-isolated
returns-in-Ok-clause-isolated g c = λ cs start before h is_held.
    isolates_by c.args.services cs c.args.libraries.now h c.requires.libraries (g.P.PacketSource.left c.args.network.now) _ _ c.in-Ok.report (returns-in-Ok-clause-ok g c cs start before h is_held)

pub returns-clause-err : goal.returns-clause-err
returns-clause-err g c = λ cs start before h is_held.
    let stage = c.new-stage.result in
    let services = stage.services.now in
    let libraries = stage.libraries.now in
    let ts = terms_in services.desk libraries in
    let same = c.new-stage.ensures.services in
    let library = c.new-stage.ensures.libraries in
    let many = ap length library ∙ c.requires.libraries ∙ ap (λ w. length (services_in w.desk)) (sym same) in
    let input = g.P.PacketSource.left c.args.network.now in
    let is_out = (λ (qs : List (List ℕ)). g.K.PacketSink.holds c.run_stage_told.new.out start (before ++ qs)) in
    let fails = (λ (qs : List (List ℕ)). g.K.PacketSink.fails c.run_stage_told.new.out start (before ++ qs)) in
    let unsent = (λ (qs : List (List ℕ)). g.K.GatheringSink.fails_to_send c.run_stage_told.new.out start (before ++ qs)) in
    let exchanged = (λ (x : g.row.U.Denot). Exchanged g.U.Automation.exchanges g.U.Automation.failures x c.run_stage_told.new.stage.automation.now) in
    let begins = services_begin g.U.Automation.exchanges g.met.U.Automation.exchanges_refl g.met.U.Automation.exchanges_trans g.U.Automation.failures services cs libraries stage.automation.now
    (subst (λ w. ServicesStandFor w cs) (sym same) h) many in
    let terms : ts ≡ terms_by cs c.args.libraries.now = ap (λ w. terms_in w.desk libraries) same ∙ ap (λ l. terms_in c.args.services.desk l) library ∙ ap (λ w. terms_by w c.args.libraries.now) (configs_are c.args.services cs h) in
    let stopped = c.in-Err.ensures.err start before (λ kept. (refl, begins)) is_held in
    let all = stops_by (configs_of ts) c.in-Err.stop input _ (ServicesLeave ts (services_fault_of c.in-Err.stop) is_out fails unsent (exchanged stage.automation.now))
    (services_leave _ _ _ _ stage c.run_stage_told.new.stage is_out fails unsent ts c.run_stage_told.new.stage.services.now.desk c.run_stage_told.new.stage.services.now.talk c.run_stage_told.new.stage.libraries.now (exchanged stage.automation.now)
    (λ s. refl) (λ ps qs kept s. s.1) (λ ps qs p r. r) (λ ps next put q b. b) (λ bs e. none_by (configs_of ts) bs e) c.in-Err.stop) stopped in
    let done = subst (λ x. ServicesStop (terms_by cs c.args.libraries.now) c.run_fault_of.result input is_out fails unsent (exchanged x)) c.new-stage.ensures.automation
    (subst (λ us. ServicesStop us c.run_fault_of.result input is_out fails unsent (exchanged stage.automation.now)) terms
    (subst (λ f. ServicesStop ts f input is_out fails unsent (exchanged stage.automation.now)) (sym c.run_fault_of.ensures) all)) in
    let named = c.in-Err.ensures.stage ∙ c.new-stage.ensures.same in
    subst (λ x. ServicesStop (terms_by cs c.args.libraries.now) c.run_fault_of.result input is_out fails unsent (Exchanged g.U.Automation.exchanges g.U.Automation.failures c.args.automation.now x))
    (sym (c.automation-1.given.1 (sym named))) done

pub returns-in-Ok-clause-progress : goal.returns-in-Ok-clause-progress
returns-in-Ok-clause-progress g c = λ cs start before h is_held.
    let input = g.P.PacketSource.left c.args.network.now in
    let long : length c.args.libraries.now ≡ length cs = c.requires.libraries ∙ sym (as_many (services_in c.args.services.desk)) ∙ ap length (configs_are c.args.services cs h) in
    let sound = services_sound (terms_by cs c.args.libraries.now) input _ _ c.in-Ok.report (returns-in-Ok-clause-ok g c cs start before h is_held) in
    end_progresses (services_test cs) input (g.P.PacketSource.has_ended c.args.network.now) (g.P.PacketSource.has_ended c.run_stage_told.new.network) _ _ _ _
    (subst (λ w. IfSome input (λ bs. first_services_fault w bs ≡ None)) (configs_by cs c.args.libraries.now long) sound) c.in-Ok.ensures.read c.in-Ok.ensures.wrote

pub returns-clause-progress : goal.returns-clause-progress
returns-clause-progress g c = λ cs start before h is_held.
    let ts = terms_by cs c.args.libraries.now in
    let f = c.run_fault_of.result in
    let input = g.P.PacketSource.left c.args.network.now in
    let is_out = (λ (qs : List (List ℕ)). g.K.PacketSink.holds c.run_stage_told.new.out start (before ++ qs)) in
    let fails = (λ (qs : List (List ℕ)). g.K.PacketSink.fails c.run_stage_told.new.out start (before ++ qs)) in
    let unsent = (λ (qs : List (List ℕ)). g.K.GatheringSink.fails_to_send c.run_stage_told.new.out start (before ++ qs)) in
    let exchanged = Exchanged g.U.Automation.exchanges g.U.Automation.failures c.args.automation.now c.automation-1.given.0 in
    let long : length c.args.libraries.now ≡ length cs = c.requires.libraries ∙ sym (as_many (services_in c.args.services.desk)) ∙ ap length (configs_are c.args.services cs h) in
    let stopped = subst (λ w. stops.StopsBy Read (services_test w) run_cause f input (ServicesLeave ts f is_out fails unsent exchanged)) (configs_by cs c.args.libraries.now long) (returns-clause-err g c cs start before h is_held) in
    let reading = subst (λ x. NetworkBlamedToEnd x (g.P.PacketSource.has_ended c.args.network.now) (g.P.PacketSource.has_ended c.run_stage_told.new.network) (g.P.PacketSource.counts c.args.network.now) (g.P.PacketSource.counts c.run_stage_told.new.network))
    (sym c.run_fault_of.ensures) (network_blamed c.in-Err.stop _ _ _ _ c.in-Err.ensures.reading) in
    let writing = subst (λ x. OutputBlamed x (g.K.PacketSink.counts c.args.out.now) (g.K.PacketSink.counts c.run_stage_told.new.out) (g.K.PacketSink.is_full c.run_stage_told.new.out)) (sym c.run_fault_of.ensures)
    (output_blamed c.in-Err.stop _ _ _ c.in-Err.ensures.writing) in
    stop_progresses (services_test cs) input _ (g.P.PacketSource.has_ended c.args.network.now) (g.P.PacketSource.has_ended c.run_stage_told.new.network) _ _ _ _ _ fails unsent
    (λ x. ServicesLeave ts x is_out fails unsent exchanged) (λ x bs passed rest. services_fail ts is_out fails unsent exchanged x bs passed rest) f stopped reading writing
    (λ e. c.in-Err.ensures.turns (ap Err (turns_of c.in-Err.stop (sym c.run_fault_of.ensures ∙ e))))
