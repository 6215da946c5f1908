use Rattle.std.proofs.Common.{◌≡◌, ℕ, List, ◌++◌, ◌∙◌, Err, refl, sym, ap, subst}
use Rattle.ts_packet.specs.declared.reader.ReadFault.TheVariants.{Turns}
use Rattle.program_follower.specs.FirstFault.{network_test}
use Rattle.program_follower.specs.Purposes.{reading_cues}
use Rattle.ad_library.specs.Library.{held}
use Rattle.chain_engine.specs.Stops.{as_run_fault, run_fault_of}
use Rattle.chain_engine.specs.Splices.{SpliceStops, SpliceLeaves, NetworkBlamedToEnd}
use Rattle.chain_engine.specs.Runs.{OutputBlamed}
use Rattle.chain_engine.specs.declared.faults.RunFault.TheVariants.{Read}
use Rattle.chain_engine.proofs.StageLemmas.{stops_by, none_by, splice_leaves, splices_all, network_blamed_to_end, output_blamed, turns_of}
use Rattle.chain_engine.proofs.ProgressLemmas.{end_progresses, stop_progresses, splice_fails, splice_sound}
use Rattle.chain_engine.proofs.splice.run_splice.Goals as goal

pub returns-in-Ok-clause-ok : goal.returns-in-Ok-clause-ok
returns-in-Ok-clause-ok g c = λ start before is_held.
    let d = c.args.config in
    let filed = held c.args.library.now in
    let is_out = (λ (qs : List (List ℕ)). g.K.PacketSink.holds c.run_stage.new.out start (before ++ qs)) in
    let through = c.in-Ok.ensures.ok start before (λ kept. (refl, record { stands = c.new.ensures filed; sent = refl })) is_held in
    splices_all c.run_stage.new.stage is_out d filed _ (λ ps sent report e. e) _ c.in-Ok.report through

pub returns-in-Err-clause-err : goal.returns-in-Err-clause-err
returns-in-Err-clause-err g c = λ start before is_held.
    let d = c.args.config in
    let filed = held c.args.library.now in
    let input = g.P.PacketSource.left c.args.network.now in
    let is_out = (λ (qs : List (List ℕ)). g.K.PacketSink.holds c.run_stage.new.out start (before ++ qs)) in
    let fails = (λ (qs : List (List ℕ)). g.K.PacketSink.fails c.run_stage.new.out start (before ++ qs)) in
    let unsent = (λ (qs : List (List ℕ)). g.K.GatheringSink.fails_to_send c.run_stage.new.out start (before ++ qs)) in
    let stops = c.in-Err.ensures.err start before (λ kept. (refl, record { stands = c.new.ensures filed; sent = refl })) is_held in
    subst (λ f. SpliceStops d filed f input is_out fails unsent) (sym c.of.ensures)
    (stops_by (reading_cues d) c.in-Err.stop input _ (SpliceLeaves d filed (run_fault_of c.in-Err.stop) is_out fails unsent)
    (splice_leaves _ _ _ _ _ c.run_stage.new.stage is_out fails unsent c.run_stage.new.stage.switch d filed (λ ps qs kept s. s.1) (λ ps qs p r. r) (λ ps next put q b. b) (λ bs e. none_by (reading_cues d) bs e) c.in-Err.stop) stops)

pub returns-in-Ok-clause-devices : goal.returns-in-Ok-clause-devices
returns-in-Ok-clause-devices g c = record {
  read = c.in-Ok.ensures.read;
  wrote = c.in-Ok.ensures.wrote;
  read_so = tt;
  wrote_so = tt;
  turned = λ e. absurd (cc);
  reads = c.run_stage.ensures.reads;
  puts_on = c.run_stage.ensures.leads;
}

pub returns-in-Err-clause-devices : goal.returns-in-Err-clause-devices
returns-in-Err-clause-devices g c = record {
  read = tt;
  wrote = tt;
  read_so = subst (λ f. NetworkBlamedToEnd f (g.P.PacketSource.has_ended c.args.network.now) (g.P.PacketSource.has_ended c.run_stage.new.network) (g.P.PacketSource.counts c.args.network.now) (g.P.PacketSource.counts c.run_stage.new.network)) (sym c.of.ensures)
      (network_blamed_to_end c.in-Err.stop _ _ _ _ c.in-Err.ensures.reading);
  wrote_so = subst (λ f. OutputBlamed f (g.K.PacketSink.counts c.args.out.now) (g.K.PacketSink.counts c.run_stage.new.out) (g.K.PacketSink.is_full c.run_stage.new.out)) (sym c.of.ensures)
      (output_blamed c.in-Err.stop _ _ _ c.in-Err.ensures.writing);
  turned = λ e.
      let is : c.of.result ≡ Read Turns = cc in
      c.in-Err.ensures.turns (ap Err (turns_of c.in-Err.stop (sym c.of.ensures ∙ is)));
  reads = c.run_stage.ensures.reads;
  puts_on = c.run_stage.ensures.leads;
}

pub returns-in-Ok-clause-progress : goal.returns-in-Ok-clause-progress
returns-in-Ok-clause-progress g c = λ start before h.
    end_progresses (network_test as_run_fault (reading_cues c.args.config)) _ (g.P.PacketSource.has_ended c.args.network.now) (g.P.PacketSource.has_ended c.run_stage.new.network) _ _ _ _
    (splice_sound c.args.config (held c.args.library.now) _ _ _ (returns-in-Ok-clause-ok g c start before h)) c.in-Ok.ensures.read c.in-Ok.ensures.wrote

pub returns-in-Err-clause-progress : goal.returns-in-Err-clause-progress
returns-in-Err-clause-progress g c = λ start before h.
    let is_out = (λ (qs : List (List ℕ)). g.K.PacketSink.holds c.run_stage.new.out start (before ++ qs)) in
    let fails = (λ (qs : List (List ℕ)). g.K.PacketSink.fails c.run_stage.new.out start (before ++ qs)) in
    let unsent = (λ (qs : List (List ℕ)). g.K.GatheringSink.fails_to_send c.run_stage.new.out start (before ++ qs)) in
    stop_progresses (network_test as_run_fault (reading_cues c.args.config)) _ _ (g.P.PacketSource.has_ended c.args.network.now) (g.P.PacketSource.has_ended c.run_stage.new.network) _ _ _ _ _ fails unsent
    (λ f. SpliceLeaves c.args.config (held c.args.library.now) f is_out fails unsent) (λ f bs passed rest. splice_fails c.args.config is_out fails unsent f bs passed (held c.args.library.now) rest)
    c.of.result (returns-in-Err-clause-err g c start before h) (returns-in-Err-clause-devices g c).read_so (returns-in-Err-clause-devices g c).wrote_so
    (λ e. (returns-in-Err-clause-devices g c).turned (ap Err e))
