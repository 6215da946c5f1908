use Rattle.std.proofs.Common.{◌≡◌, ℕ, List, [], ◌++◌, ◌∙◌, Option, Err, refl, sym, ap, subst}
use Rattle.ts_packet.specs.declared.reader.ReadFault.TheVariants.{Turns}
use Rattle.program_follower.specs.FirstFault.{network_test}
use Rattle.program_follower.specs.Purposes.{reading_cues}
use Rattle.ad_library.specs.Library.{held}
use Rattle.chain_engine.specs.Stops.{as_run_fault, run_fault_of}
use Rattle.ad_library.specs.Advertisements.{Advertisement}
use Rattle.splice_switch.specs.Standing.{SwitchStandsFor}
use Rattle.chain_engine.specs.Splices.{SplicesAll, SpliceStops, SpliceLeaves, NetworkBlamedToEnd}
use Rattle.chain_engine.specs.Runs.{OutputBlamed}
use Rattle.chain_engine.specs.declared.faults.RunFault.TheVariants.{Read}
use Rattle.chain_engine.proofs.StageLemmas.{stops_by, none_by, splice_leaves, splices_all, network_blamed_to_end, output_blamed, turns_of}
use Rattle.chain_engine.proofs.ProgressLemmas.{end_progresses, stop_progresses, splice_fails, splice_sound}
use Rattle.run_events.proofs.runs.splice_told.Goals as goal

pub returns-in-Ok-clause-ok : goal.returns-in-Ok-clause-ok
returns-in-Ok-clause-ok g c = λ start before is_held.
    let stage = c.new-stage.result in
    let cfg = stage.config in
    let filed = held stage.library.now in
    let library = ap held c.new-stage.ensures.library in
    let config = c.new-stage.ensures.config in
    let stands = subst (λ w. SwitchStandsFor stage.switch w filed []) (sym config) (c.new-stage.ensures.switch filed) in
    let input = g.P.PacketSource.left c.args.network.now in
    let is_out = (λ (qs : List (List ℕ)). g.K.PacketSink.holds c.run_stage_told.new.out start (before ++ qs)) in
    let through = c.in-Ok.ensures.ok start before (λ kept. (refl, record { stands = stands; sent = refl })) is_held in
    let all = splices_all c.run_stage_told.new.stage is_out cfg filed _ (λ ps sent report e. e) _ c.in-Ok.report through in
    subst (λ (v : ℕ → Option Advertisement). SplicesAll c.args.config v input is_out c.in-Ok.report) library
    (subst (λ x. SplicesAll x filed input is_out c.in-Ok.report) config all)

pub returns-clause-err : goal.returns-clause-err
returns-clause-err g c = λ start before is_held.
    let stage = c.new-stage.result in
    let cfg = stage.config in
    let filed = held stage.library.now in
    let library = ap held c.new-stage.ensures.library in
    let config = c.new-stage.ensures.config in
    let stands = subst (λ w. SwitchStandsFor stage.switch w filed []) (sym config) (c.new-stage.ensures.switch filed) in
    let input = g.P.PacketSource.left c.args.network.now in
    let is_out = (λ (qs : List (List ℕ)). g.K.PacketSink.holds c.run_stage_told.new.out start (before ++ qs)) in
    let fails = (λ (qs : List (List ℕ)). g.K.PacketSink.fails c.run_stage_told.new.out start (before ++ qs)) in
    let unsent = (λ (qs : List (List ℕ)). g.K.GatheringSink.fails_to_send c.run_stage_told.new.out start (before ++ qs)) in
    let stops = c.in-Err.ensures.err start before (λ kept. (refl, record { stands = stands; sent = refl })) is_held in
    subst (λ f. SpliceStops c.args.config (held c.args.library.now) f input is_out fails unsent) (sym c.of.ensures)
    (subst (λ (v : ℕ → Option Advertisement). SpliceStops c.args.config v (run_fault_of c.in-Err.stop) input is_out fails unsent) library
    (subst (λ x. SpliceStops x filed (run_fault_of c.in-Err.stop) input is_out fails unsent) config
    (stops_by (reading_cues cfg) c.in-Err.stop input _ (SpliceLeaves cfg filed (run_fault_of c.in-Err.stop) is_out fails unsent)
    (splice_leaves _ _ _ _ _ c.run_stage_told.new.stage is_out fails unsent c.run_stage_told.new.stage.switch cfg filed (λ ps qs kept s. s.1) (λ ps qs p r. r) (λ ps next put q b. b) (λ bs e. none_by (reading_cues cfg) bs e) c.in-Err.stop) stops)))

pub returns-clause-reading : goal.returns-clause-reading
returns-clause-reading g c =
    subst (λ f. NetworkBlamedToEnd f (g.P.PacketSource.has_ended c.args.network.now) (g.P.PacketSource.has_ended c.run_stage_told.new.network) (g.P.PacketSource.counts c.args.network.now) (g.P.PacketSource.counts c.run_stage_told.new.network)) (sym c.of.ensures)
    (network_blamed_to_end c.in-Err.stop _ _ _ _ c.in-Err.ensures.reading)

pub returns-clause-writing : goal.returns-clause-writing
returns-clause-writing g c =
    subst (λ f. OutputBlamed f (g.K.PacketSink.counts c.args.out.now) (g.K.PacketSink.counts c.run_stage_told.new.out) (g.K.PacketSink.is_full c.run_stage_told.new.out)) (sym c.of.ensures)
    (output_blamed c.in-Err.stop _ _ _ c.in-Err.ensures.writing)

pub returns-clause-turns : goal.returns-clause-turns
returns-clause-turns g c = λ e.
    let is : c.of.result ≡ Read Turns = cc in
    c.in-Err.ensures.turns (ap Err (turns_of c.in-Err.stop (sym c.of.ensures ∙ is)))

pub returns-in-Ok-clause-progress : goal.returns-in-Ok-clause-progress
returns-in-Ok-clause-progress g c = λ start before h.
    end_progresses (network_test as_run_fault (reading_cues c.args.config)) _ (g.P.PacketSource.has_ended c.args.network.now) (g.P.PacketSource.has_ended c.run_stage_told.new.network) _ _ _ _
    (splice_sound c.args.config (held c.args.library.now) _ _ _ (returns-in-Ok-clause-ok g c start before h)) c.in-Ok.ensures.read c.in-Ok.ensures.wrote

pub returns-clause-progress : goal.returns-clause-progress
returns-clause-progress g c = λ start before h.
    let is_out = (λ (qs : List (List ℕ)). g.K.PacketSink.holds c.run_stage_told.new.out start (before ++ qs)) in
    let fails = (λ (qs : List (List ℕ)). g.K.PacketSink.fails c.run_stage_told.new.out start (before ++ qs)) in
    let unsent = (λ (qs : List (List ℕ)). g.K.GatheringSink.fails_to_send c.run_stage_told.new.out start (before ++ qs)) in
    stop_progresses (network_test as_run_fault (reading_cues c.args.config)) _ _ (g.P.PacketSource.has_ended c.args.network.now) (g.P.PacketSource.has_ended c.run_stage_told.new.network) _ _ _ _ _ fails unsent
    (λ f. SpliceLeaves c.args.config (held c.args.library.now) f is_out fails unsent) (λ f bs passed rest. splice_fails c.args.config is_out fails unsent f bs passed (held c.args.library.now) rest)
    c.of.result (returns-clause-err g c start before h) (returns-clause-reading g c) (returns-clause-writing g c)
    (λ e. returns-clause-turns g c (ap Err e))
