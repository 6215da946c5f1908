use Rattle.std.proofs.Common.{◌≡◌, ℕ, List, [], ◌∷◌, ◌++◌, Err, inl, inr, ap, sym, subst}
use Rattle.std.proofs.lemmas.List.{append-nil}
use Rattle.ts_packet.specs.Sources.{Refuses}
use Rattle.ts_packet.specs.declared.reader.ReadFault.TheVariants.{Turns}
use Rattle.ts_packet.proofs.CountLemmas.{well-refl, well-trans, blamed-after}
use Rattle.ts_packet.proofs.RunBlameLemmas.{given_none, given_more, on-refl, on-more, on-told, on-end, read_blamed}
use Rattle.packet_runs.specs.Stops.{StopsBy, refusal_test, stop_cause}
use Rattle.packet_runs.specs.Runs.{Leaves, SourceBlamedAt, SinkBlamedAt}
use Rattle.packet_runs.specs.declared.run.Stop.TheVariants.{Read}
use Rattle.packet_runs.proofs.RunLemmas.{begun, gone_more, sent_so, goes_through, read_stops, send_stops, step_stops, finish_stops, step_blames, step_sink, ran_out_so}
use Rattle.packet_runs.proofs.run.run_stage.Goals as goal

pub loop-fault-init : goal.loop-fault-init
loop-fault-init g c = record {
  whole = c.requires;
  reads = g.met.P.PacketSource.leads_refl _;
  leads = g.met.K.PacketSink.leads_refl _;
  stays = g.met.S.Stage.leads_refl _;
  well = on-refl _ _;
  wrote = well-refl _;
  passed = (
    [],
    given_none _ _,
    λ start before s held. begun g.S.Stage.refusal g.S.Stage.sends c.args.stage.now _ (λ qs. g.K.PacketSink.holds c.args.out.now start (before ++ qs)) (s _)
        (subst (g.K.PacketSink.holds c.args.out.now start) (sym (append-nil before)) held),
  );
}

-- ---- before a read

pub returns-in-Err-clause-err : goal.returns-in-Err-clause-err
returns-in-Err-clause-err g c = λ start before s held.
    let (ps, n, run) = c.loop-fault.invariant.passed in
    let h = run start before s held in
    send_stops g.S.Stage.refusal g.S.Stage.sends c.args.stage.now g.S.Stage.refuses g.S.Stage.breaks (λ qs. g.K.PacketSink.holds c.send_before_wait.new.out start (before ++ qs)) (λ qs. g.K.PacketSink.fails c.send_before_wait.new.out start (before ++ qs))
    (λ qs. g.K.GatheringSink.fails_to_send c.send_before_wait.new.out start (before ++ qs)) ps _ c.loop-fault.stage (λ qs. g.K.PacketSink.holds c.loop-fault.out start (before ++ qs)) _ _ n.read h c.in-Err.fault
    (c.in-Err.ensures.err start (before ++ h.sent) h.out)

pub returns-in-Err-clause-reading : goal.returns-in-Err-clause-reading
returns-in-Err-clause-reading g c = inl c.loop-fault.invariant.well

pub returns-in-Err-clause-writing : goal.returns-in-Err-clause-writing
returns-in-Err-clause-writing g c = blamed-after c.in-Err.fault _ _ _ _ c.loop-fault.invariant.wrote c.in-Err.ensures.blamed

-- ---- a packet

pub loop-fault-preserved : goal.loop-fault-preserved
loop-fault-preserved g c =
    let (ps, n, run) = c.loop-fault.invariant.passed in
    let p = c.read.new.self.next.now in
    let r = rw c.in-Ok-true.field-0-test at c.in-Ok-true.ensures.ok in
    record {
      whole = c.in-Ok-true.ensures.broken;
      reads = g.met.P.PacketSource.leads_trans _ _ _ c.loop-fault.invariant.reads c.in-Ok-true.ensures.leads;
      leads = g.met.K.PacketSink.leads_trans _ _ _ (g.met.K.PacketSink.leads_trans _ _ _ c.loop-fault.invariant.leads c.in-Ok.ensures.leads) c.in-Ok-pass.ensures.leads;
      stays = g.met.S.Stage.leads_trans _ _ _ c.loop-fault.invariant.stays c.in-Ok-pass.ensures.stage;
      well = on-more _ _ _ _ _ _ c.loop-fault.invariant.well (rw c.in-Ok-true.field-0-test at c.in-Ok-true.ensures.counts);
      wrote = well-trans _ _ _ (well-trans _ _ _ c.loop-fault.invariant.wrote c.in-Ok.ensures.well) c.in-Ok-pass.ensures.well;
      passed = (
        ps ++ p ∷ [],
        given_more _ _ _ _ _ _ ps p n r (rw c.in-Ok-true.field-0-test at c.in-Ok-true.ensures.given),
        λ start before s held.
            let h = run start before s held in
            let out = c.in-Ok.ensures.ok start (before ++ h.sent) h.out in
            gone_more g.S.Stage.refusal g.S.Stage.sends c.args.stage.now ps p _ _ c.loop-fault.stage c.pass.new.stage _ (λ qs. g.K.PacketSink.holds c.pass.new.out start (before ++ qs)) h
            (c.in-Ok-pass.ensures.ok c.args.stage.now ps h.sent start before (subst (λ kept. g.S.Stage.sends c.args.stage.now ps h.sent kept c.loop-fault.stage) (sym c.read.ensures.kept) h.sends_it) out),
      );
    }

pub returns-in-Err-pass-clause-err : goal.returns-in-Err-pass-clause-err
returns-in-Err-pass-clause-err g c = λ start before s held.
    let (ps, n, run) = c.loop-fault.invariant.passed in
    let p = c.read.new.self.next.now in
    let r = rw c.in-Ok-true.field-0-test at c.in-Ok-true.ensures.ok in
    let h = run start before s held in
    let is_out = (λ (qs : List (List ℕ)). g.K.PacketSink.holds c.pass.new.out start (before ++ qs)) in
    let fails = (λ (qs : List (List ℕ)). g.K.PacketSink.fails c.pass.new.out start (before ++ qs)) in
    let unsent = (λ (qs : List (List ℕ)). g.K.GatheringSink.fails_to_send c.pass.new.out start (before ++ qs)) in
    subst (λ f. StopsBy Read (refusal_test (g.S.Stage.refusal c.args.stage.now)) stop_cause f (g.P.PacketSource.left c.args.network.now)
    (Leaves g.S.Stage.sends g.S.Stage.refuses g.S.Stage.breaks g.S.Stage.refusal f c.args.stage.now c.pass.new.stage is_out fails unsent)) (sym c.of.ensures)
    (step_stops g.S.Stage.refusal g.S.Stage.sends c.args.stage.now g.S.Stage.refuses g.S.Stage.breaks is_out fails unsent ps _ c.loop-fault.stage c.pass.new.stage _ _ _ _ p n.read r h c.in-Err-pass.fault
    (c.in-Err-pass.ensures.err c.args.stage.now ps h.sent start before (subst (λ kept. g.S.Stage.sends c.args.stage.now ps h.sent kept c.loop-fault.stage) (sym c.read.ensures.kept) h.sends_it)
    (c.in-Ok.ensures.ok start (before ++ h.sent) h.out)))

pub returns-in-Err-pass-clause-reading : goal.returns-in-Err-pass-clause-reading
returns-in-Err-pass-clause-reading g c =
    subst (λ f. SourceBlamedAt g.S.Stage.puts_rest f (g.P.PacketSource.has_ended c.args.network.now) (g.P.PacketSource.has_ended c.read.new.network) (g.P.PacketSource.counts c.args.network.now) (g.P.PacketSource.counts c.read.new.network)) (sym c.of.ensures)
    (step_blames _ _ _ c.in-Err-pass.fault _ _ (on-told _ _ _ _ _ _ c.loop-fault.invariant.well (rw c.in-Ok-true.field-0-test at c.in-Ok-true.ensures.counts))
    (on-more _ _ _ _ _ _ c.loop-fault.invariant.well (rw c.in-Ok-true.field-0-test at c.in-Ok-true.ensures.counts)))

pub returns-in-Err-pass-clause-writing : goal.returns-in-Err-pass-clause-writing
returns-in-Err-pass-clause-writing g c =
    subst (λ f. SinkBlamedAt f (g.K.PacketSink.counts c.args.out.now) (g.K.PacketSink.counts c.pass.new.out) (g.K.PacketSink.is_full c.pass.new.out)) (sym c.of.ensures)
    (step_sink c.in-Err-pass.fault _ _ _ _ (well-trans _ _ _ c.loop-fault.invariant.wrote c.in-Ok.ensures.well) c.in-Err-pass.ensures.blamed)

-- ---- the source stops the run

pub returns-in-Err-read-clause-err : goal.returns-in-Err-read-clause-err
returns-in-Err-read-clause-err g c = λ start before s held.
    let (ps, n, run) = c.loop-fault.invariant.passed in
    let refuses = subst (λ b. Refuses b (g.P.PacketSource.left c.loop-fault.network) c.in-Err-read.fault) c.loop-fault.invariant.whole c.in-Err-read.ensures.err in
    let h = run start before s held in
    let is_out = (λ (qs : List (List ℕ)). g.K.PacketSink.holds c.send_before_wait.new.out start (before ++ qs)) in
    read_stops g.S.Stage.refusal g.S.Stage.sends c.args.stage.now g.S.Stage.refuses g.S.Stage.breaks is_out (λ qs. g.K.PacketSink.fails c.send_before_wait.new.out start (before ++ qs))
    (λ qs. g.K.GatheringSink.fails_to_send c.send_before_wait.new.out start (before ++ qs)) ps _ c.loop-fault.stage _ _ n.read
    (sent_so g.S.Stage.refusal g.S.Stage.sends c.args.stage.now ps _ c.loop-fault.stage (λ qs. g.K.PacketSink.holds c.loop-fault.out start (before ++ qs)) is_out h (c.in-Ok.ensures.ok start (before ++ h.sent) h.out))
    c.in-Err-read.fault refuses

pub returns-in-Err-read-clause-reading : goal.returns-in-Err-read-clause-reading
returns-in-Err-read-clause-reading g c =
    let refuses = subst (λ b. Refuses b (g.P.PacketSource.left c.loop-fault.network) c.in-Err-read.fault) c.loop-fault.invariant.whole c.in-Err-read.ensures.err in
    read_blamed _ _ _ _ _ _ _ c.loop-fault.invariant.well c.in-Err-read.ensures.blamed.0 c.in-Err-read.fault refuses c.in-Err-read.ensures.blamed.1

pub returns-in-Err-read-clause-writing : goal.returns-in-Err-read-clause-writing
returns-in-Err-read-clause-writing g c = well-trans _ _ _ c.loop-fault.invariant.wrote c.in-Ok.ensures.well

pub returns-in-Err-read-clause-turns : goal.returns-in-Err-read-clause-turns
returns-in-Err-read-clause-turns g c = λ e.
    let (ps, n, run) = c.loop-fault.invariant.passed in
    let is : c.in-Err-read.fault ≡ Turns = cc in
    ran_out_so g.P.PacketSource.leads g.P.PacketSource.counts g.P.PacketSource.falls_short g.P.PacketSource.left g.P.PacketSource.given _ _ _ _ _ ps c.loop-fault.invariant.reads c.loop-fault.invariant.well c.in-Err-read.ensures.blamed.0 n c.in-Err-read.fault c.in-Err-read.ensures.blamed.1
    (λ t. c.in-Err-read.ensures.short (ap Err t)) is

-- ---- the end

pub returns-in-Ok-finish-clause-ok : goal.returns-in-Ok-finish-clause-ok
returns-in-Ok-finish-clause-ok g c = λ start before s held.
    let (ps, n, run) = c.loop-fault.invariant.passed in
    let r = rw c.in-Ok-false.field-0-test at c.in-Ok-false.ensures.ok in
    let h = run start before s held in
    goes_through g.S.Stage.refusal g.S.Stage.sends c.args.stage.now g.S.Stage.ends ps _ c.loop-fault.stage c.finish.new.self _ (λ qs. g.K.PacketSink.holds c.finish.new.out start (before ++ qs)) _ _ c.in-Ok-finish.report n.read r.0 h
    (c.in-Ok-finish.ensures.ok c.args.stage.now ps h.sent _ start before h.sends_it (c.in-Ok.ensures.ok start (before ++ h.sent) h.out))

pub returns-in-Ok-finish-clause-read : goal.returns-in-Ok-finish-clause-read
returns-in-Ok-finish-clause-read g c = on-end _ _ _ _ _ _ c.loop-fault.invariant.well (rw c.in-Ok-false.field-0-test at c.in-Ok-false.ensures.counts)

pub returns-in-Ok-finish-clause-wrote : goal.returns-in-Ok-finish-clause-wrote
returns-in-Ok-finish-clause-wrote g c = well-trans _ _ _ (well-trans _ _ _ c.loop-fault.invariant.wrote c.in-Ok.ensures.well) c.in-Ok-finish.ensures.well

pub returns-in-Err-finish-clause-err : goal.returns-in-Err-finish-clause-err
returns-in-Err-finish-clause-err g c = λ start before s held.
    let (ps, n, run) = c.loop-fault.invariant.passed in
    let r = rw c.in-Ok-false.field-0-test at c.in-Ok-false.ensures.ok in
    let h = run start before s held in
    finish_stops g.S.Stage.refusal g.S.Stage.sends c.args.stage.now g.S.Stage.refuses g.S.Stage.breaks (λ qs. g.K.PacketSink.holds c.finish.new.out start (before ++ qs)) (λ qs. g.K.PacketSink.fails c.finish.new.out start (before ++ qs))
    (λ qs. g.K.GatheringSink.fails_to_send c.finish.new.out start (before ++ qs)) ps _ c.loop-fault.stage c.finish.new.self _ _ _ n.read r.0 h c.in-Err-finish.fault
    (c.in-Err-finish.ensures.err c.args.stage.now ps h.sent _ start before h.sends_it (c.in-Ok.ensures.ok start (before ++ h.sent) h.out))

pub returns-in-Err-finish-clause-reading : goal.returns-in-Err-finish-clause-reading
returns-in-Err-finish-clause-reading g c = inr (c.in-Err-finish.ensures.rest, on-end _ _ _ _ _ _ c.loop-fault.invariant.well (rw c.in-Ok-false.field-0-test at c.in-Ok-false.ensures.counts))

pub returns-in-Err-finish-clause-writing : goal.returns-in-Err-finish-clause-writing
returns-in-Err-finish-clause-writing g c = blamed-after c.in-Err-finish.fault _ _ _ _ (well-trans _ _ _ c.loop-fault.invariant.wrote c.in-Ok.ensures.well) c.in-Err-finish.ensures.blamed
