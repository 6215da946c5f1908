use Rattle.ad_library.specs.Advertisements.{Advertisement}
use Rattle.std.proofs.Common.{◌≡◌, Option, ℕ, List, [], ◌++◌, ◌∙◌, Err, refl, sym, ap, subst}
use Rattle.ts_packet.specs.declared.reader.ReadFault.TheVariants.{Turns}
use Rattle.program_follower.specs.FirstFault.{network_test}
use Rattle.program_follower.specs.Purposes.{writing_cues}
use Rattle.chain_engine.specs.Chains.{ChainStandsFor}
use Rattle.ad_library.specs.Library.{held}
use Rattle.chain_engine.specs.Stops.{as_run_fault, run_fault_of}
use Rattle.chain_engine.specs.Splices.{NetworkBlamedToEnd}
use Rattle.chain_engine.specs.ChainRuns.{chain_sends, RunsAll, ChainStops, ChainLeaves}
use Rattle.chain_engine.specs.Stages.{ServesFor}
use Rattle.chain_engine.specs.Runs.{reply_in, Exchanged, OutputBlamed}
use Rattle.chain_engine.specs.declared.faults.RunFault.TheVariants.{Read}
use Rattle.chain_engine.proofs.RunLemmas.{begun}
use Rattle.chain_engine.proofs.StageLemmas.{stops_by, chain_leaves, runs_all, none_by, network_blamed_to_end, output_blamed, turns_of}
use Rattle.chain_engine.proofs.ProgressLemmas.{end_progresses, stop_progresses, chain_fails, chain_sound}
use Rattle.chain_engine.proofs.running.run.Goals as goal

pub returns-in-Ok-clause-ok : goal.returns-in-Ok-clause-ok
returns-in-Ok-clause-ok g c = λ d start before h is_held.
    let stage = c.new-stage.result in
    let filed = held stage.library.now in
    let library = ap held c.new-stage.ensures.library in
    let here = subst (λ w. ChainStandsFor w w.service.config) (sym c.new-stage.ensures.chain) (subst (ChainStandsFor c.args.chain) (sym h.config) h) in
    let config = ap (λ w. w.service.config) c.new-stage.ensures.chain ∙ h.config in
    let is_out = (λ (qs : List (List ℕ)). g.K.PacketSink.holds c.run_stage.new.out start (before ++ qs)) in
    let exchanged = (λ (x : g.row.U.Denot). Exchanged g.U.Automation.exchanges g.U.Automation.failures x c.run_stage.new.stage.automation.now) in
    let begins = begun g.U.Automation.exchanges g.met.U.Automation.exchanges_refl g.met.U.Automation.exchanges_trans g.U.Automation.failures (ServesFor stage.chain.now.service.config filed) (reply_in stage.chain.now.service.config) stage.chain.now.service stage.chain.now.talk
    (λ steps. chain_sends stage.chain.now.service.config filed steps ≡ []) stage.automation.now here.talk (here.service filed) refl in
    let through = c.in-Ok.ensures.ok start before (λ kept. (refl, record { begins = here; run = begins })) is_held in
    let all = runs_all c.run_stage.new.stage is_out stage.chain.now.service.config filed (exchanged stage.automation.now) _ (λ ps sent report e. e) _ c.in-Ok.report through in
    let done = subst (λ x. RunsAll d (held c.args.library.now) (g.P.PacketSource.left c.args.network.now) is_out (exchanged x) c.in-Ok.report) c.new-stage.ensures.automation
    (subst (λ (v : ℕ → Option Advertisement). RunsAll d v (g.P.PacketSource.left c.args.network.now) is_out (exchanged stage.automation.now) c.in-Ok.report) library
    (subst (λ w. RunsAll w filed (g.P.PacketSource.left c.args.network.now) is_out (exchanged stage.automation.now) c.in-Ok.report) config all)) in
    let named = c.in-Ok.ensures.stage.0 ∙ c.new-stage.ensures.same in
    subst (λ x. RunsAll d (held c.args.library.now) (g.P.PacketSource.left c.args.network.now) is_out (Exchanged g.U.Automation.exchanges g.U.Automation.failures c.args.automation.now x) c.in-Ok.report) (sym (c.automation-1.given.1 (sym named))) done

pub returns-clause-err : goal.returns-clause-err
returns-clause-err g c = λ d start before h is_held.
    let stage = c.new-stage.result in
    let filed = held stage.library.now in
    let library = ap held c.new-stage.ensures.library in
    let here = subst (λ w. ChainStandsFor w w.service.config) (sym c.new-stage.ensures.chain) (subst (ChainStandsFor c.args.chain) (sym h.config) h) in
    let config = ap (λ w. w.service.config) c.new-stage.ensures.chain ∙ h.config in
    let input = g.P.PacketSource.left c.args.network.now in
    let is_out = (λ (qs : List (List ℕ)). g.K.PacketSink.holds c.run_stage.new.out start (before ++ qs)) in
    let fails = (λ (qs : List (List ℕ)). g.K.PacketSink.fails c.run_stage.new.out start (before ++ qs)) in
    let unsent = (λ (qs : List (List ℕ)). g.K.GatheringSink.fails_to_send c.run_stage.new.out start (before ++ qs)) in
    let exchanged = (λ (x : g.row.U.Denot). Exchanged g.U.Automation.exchanges g.U.Automation.failures x c.run_stage.new.stage.automation.now) in
    let begins = begun g.U.Automation.exchanges g.met.U.Automation.exchanges_refl g.met.U.Automation.exchanges_trans g.U.Automation.failures (ServesFor stage.chain.now.service.config filed) (reply_in stage.chain.now.service.config) stage.chain.now.service stage.chain.now.talk
    (λ steps. chain_sends stage.chain.now.service.config filed steps ≡ []) stage.automation.now here.talk (here.service filed) refl in
    let stops = c.in-Err.ensures.err start before (λ kept. (refl, record { begins = here; run = begins })) is_held in
    let all = stops_by (writing_cues stage.chain.now.service.config) c.in-Err.stop input _ (ChainLeaves stage.chain.now.service.config filed (run_fault_of c.in-Err.stop) is_out fails unsent (exchanged stage.automation.now))
    (chain_leaves _ _ _ _ stage c.run_stage.new.stage is_out fails unsent stage.chain.now c.run_stage.new.stage.chain.now filed (exchanged stage.automation.now) (λ ps qs kept s. s.1) (λ ps qs p r. r) (λ ps next put q b. b) (λ bs e. none_by (writing_cues stage.chain.now.service.config) bs e) c.in-Err.stop) stops in
    let done = subst (λ x. ChainStops d (held c.args.library.now) c.of.result input is_out fails unsent (exchanged x)) c.new-stage.ensures.automation
    (subst (λ (v : ℕ → Option Advertisement). ChainStops d v c.of.result input is_out fails unsent (exchanged stage.automation.now)) library
    (subst (λ f. ChainStops d filed f input is_out fails unsent (exchanged stage.automation.now)) (sym c.of.ensures)
    (subst (λ w. ChainStops w filed (run_fault_of c.in-Err.stop) input is_out fails unsent (exchanged stage.automation.now)) config all))) in
    let named = c.in-Err.ensures.stage.0 ∙ c.new-stage.ensures.same in
    subst (λ x. ChainStops d (held c.args.library.now) c.of.result input is_out fails unsent (Exchanged g.U.Automation.exchanges g.U.Automation.failures c.args.automation.now x)) (sym (c.automation-1.given.1 (sym named))) done

pub returns-in-Ok-clause-devices : goal.returns-in-Ok-clause-devices
returns-in-Ok-clause-devices g c = record {
  read = c.in-Ok.ensures.read;
  wrote = c.in-Ok.ensures.wrote;
  read_so = tt;
  wrote_so = tt;
  turned = λ e. absurd (cc);
  reads = c.run_stage.ensures.reads;
  puts_on = c.run_stage.ensures.leads;
}

pub returns-clause-devices : goal.returns-clause-devices
returns-clause-devices g c = record {
  read = tt;
  wrote = tt;
  read_so = subst (λ f. NetworkBlamedToEnd f (g.P.PacketSource.has_ended c.args.network.now) (g.P.PacketSource.has_ended c.run_stage.new.network) (g.P.PacketSource.counts c.args.network.now) (g.P.PacketSource.counts c.run_stage.new.network)) (sym c.of.ensures)
      (network_blamed_to_end c.in-Err.stop _ _ _ _ c.in-Err.ensures.reading);
  wrote_so = subst (λ f. OutputBlamed f (g.K.PacketSink.counts c.args.out.now) (g.K.PacketSink.counts c.run_stage.new.out) (g.K.PacketSink.is_full c.run_stage.new.out)) (sym c.of.ensures)
      (output_blamed c.in-Err.stop _ _ _ c.in-Err.ensures.writing);
  turned = λ e.
      let is : c.of.result ≡ Read Turns = cc in
      c.in-Err.ensures.turns (ap Err (turns_of c.in-Err.stop (sym c.of.ensures ∙ is)));
  reads = c.run_stage.ensures.reads;
  puts_on = c.run_stage.ensures.leads;
}

pub returns-in-Ok-clause-progress : goal.returns-in-Ok-clause-progress
returns-in-Ok-clause-progress g c = λ d start before h is_held.
    end_progresses (network_test as_run_fault (writing_cues d)) _ (g.P.PacketSource.has_ended c.args.network.now) (g.P.PacketSource.has_ended c.run_stage.new.network) _ _ _ _
    (chain_sound d (held c.args.library.now) _ _ _ _ (returns-in-Ok-clause-ok g c d start before h is_held)) c.in-Ok.ensures.read c.in-Ok.ensures.wrote

pub returns-clause-progress : goal.returns-clause-progress
returns-clause-progress g c = λ d start before h is_held.
    let is_out = (λ (qs : List (List ℕ)). g.K.PacketSink.holds c.run_stage.new.out start (before ++ qs)) in
    let fails = (λ (qs : List (List ℕ)). g.K.PacketSink.fails c.run_stage.new.out start (before ++ qs)) in
    let unsent = (λ (qs : List (List ℕ)). g.K.GatheringSink.fails_to_send c.run_stage.new.out start (before ++ qs)) in
    let exchanged = (λ (x : g.row.U.Denot). Exchanged g.U.Automation.exchanges g.U.Automation.failures c.args.automation.now x) in
    stop_progresses (network_test as_run_fault (writing_cues d)) _ _ (g.P.PacketSource.has_ended c.args.network.now) (g.P.PacketSource.has_ended c.run_stage.new.network) _ _ _ _ _ fails unsent
    (λ f. ChainLeaves d (held c.args.library.now) f is_out fails unsent (exchanged c.automation-1.given.0)) (λ f bs passed rest. chain_fails d is_out fails unsent f bs passed (held c.args.library.now) (exchanged c.automation-1.given.0) rest)
    c.of.result (returns-clause-err g c d start before h is_held) (returns-clause-devices g c).read_so (returns-clause-devices g c).wrote_so
    (λ e. (returns-clause-devices g c).turned (ap Err e))
