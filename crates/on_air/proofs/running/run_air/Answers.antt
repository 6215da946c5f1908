use Rattle.std.proofs.Common.{rules, ◌≡◌, ℕ, List, [], ◌∷◌, ◌++◌, None, reverse, sym, ap, subst, ◌∙◌, true}
use Rattle.std.specs.Prelude.{is_some}
use Rattle.std.proofs.lemmas.List.{reverse-append, append-nil}
use Rattle.std.proofs.lemmas.Result.{IfOk-weaker, on_ok_weaker}
use Rattle.ts_packet.specs.Packets.{packets_of}
use Rattle.ts_packet.proofs.RunBlameLemmas.{given_none, given_more}
use Rattle.ts_packet.proofs.PacketsLemmas.{read_to_end}
use Rattle.packet_runs.proofs.RunLemmas.{begun as gone_begins, gone_more}
use Rattle.on_air.specs.Stretches.{stretches, with_next}
use Rattle.on_air.specs.Plain.{IsToldPlain}
use Rattle.on_air.specs.AirRuns.{TellsOf, all_next}
use Rattle.on_air.specs.AirOutputs.{EndsOnAir}
use Rattle.on_air.proofs.AirLemmas.{sound-none, sound-next}
use Rattle.on_air.proofs.OutputLemmas.{sound-on-air}
use Rattle.cued_laws.specs.Laws.{ArePacketsOfBytes}
use Rattle.on_air.proofs.LoopLemmas.{stretches-append, read-on, some-of, no-fault, bytes-next, bytes-behind, on-ok-always}
use Rattle.on_air.proofs.running.run_air.Goals as goal

-- ---- behind the first packet at fault

pub returns-in-Ok-clause-sound : goal.returns-in-Ok-clause-sound
returns-in-Ok-clause-sound g c = λ start before bs begins is_held given none.
    let (ps, n, leads, bytes, reads, writes, plain, run) = c.loop-fault.invariant in
    let p = c.read_next.new.next in
    let r = rw c.in-Ok-true.field-0-test at c.in-Ok-true.ensures.read in
    let (gone, sound) = run start before begins is_held in
    let some : is_some c.look.result ≡ true = search rules in
    let (why, is) = some-of c.look.result some in
    let read = rw given at n.read in
    absurd (no-fault (g.S.Stage.refusal c.args.stage.now) bs _ _ ps p why gone.sound read r (sym (c.look.ensures.sends c.args.stage.now ps gone.sent _ gone.sends_it) ∙ is) none)

pub returns-in-Ok-clause-stretches : goal.returns-in-Ok-clause-stretches
returns-in-Ok-clause-stretches g c = λ purpose start before bs for begins is_held given.
    let (ps, n, leads, bytes, reads, writes, plain, run) = c.loop-fault.invariant in
    let p = c.read_next.new.next in
    let r = rw c.in-Ok-true.field-0-test at c.in-Ok-true.ensures.read in
    let e = rw c.in-Ok-true.field-0-test at c.in-Ok-true.ensures.given in
    let (gone, sound) = run start before begins is_held in
    let s = sound purpose for in
    let ss = stretches purpose (reverse ps) in
    let f = g.met.S.AirStage.sends_follows c.args.stage.now purpose ps gone.sent _ c.loop-fault.stage for leads gone.sends_it in
    let (stands, follows) = c.in-Ok.ensures.stands purpose ss s.stands (subst (g.S.AirStage.follows c.loop-fault.stage purpose) (sym s.read) f) in
    let more = given_more _ _ _ _ _ _ ps p n r e.0 in
    let (rest, left, all) = read-on bs _ (ps ++ p ∷ []) (rw given at more.read) in
    let one : stretches purpose (reverse (ps ++ p ∷ [])) ≡ with_next purpose p ss = ap (stretches purpose) (reverse-append ps (p ∷ [])) in
    let whole : stretches purpose (reverse (packets_of bs)) ≡ all_next purpose (packets_of rest) (with_next purpose p ss) =
    ap (λ l. stretches purpose (reverse l)) all ∙ stretches-append purpose (ps ++ p ∷ []) (packets_of rest) ∙ ap (all_next purpose (packets_of rest)) one in
    IfOk-weaker c.go_on.result _ _ (λ told w. subst (TellsOf told) (sym whole) w) (c.go_on.ensures.stretches purpose (with_next purpose p ss) rest stands follows left)

pub returns-in-Ok-clause-out : goal.returns-in-Ok-clause-out
returns-in-Ok-clause-out g c = λ purpose start before bs for tells begins is_held given.
    let (ps, n, leads, bytes, reads, writes, plain, run) = c.loop-fault.invariant in
    let p = c.read_next.new.next in
    let r = rw c.in-Ok-true.field-0-test at c.in-Ok-true.ensures.read in
    let e = rw c.in-Ok-true.field-0-test at c.in-Ok-true.ensures.given in
    let (gone, sound) = run start before begins is_held in
    let s = sound purpose for in
    let ss = stretches purpose (reverse ps) in
    let first = c.args.stage.now in
    let f = g.met.S.AirStage.sends_follows first purpose ps gone.sent _ c.loop-fault.stage for leads gone.sends_it in
    let reads = subst (g.S.AirStage.follows c.loop-fault.stage purpose) (sym s.read) f in
    let (stands, follows) = c.in-Ok.ensures.stands purpose ss s.stands reads in
    let airs = g.met.S.AirStage.sends_airs first purpose ps gone.sent _ c.loop-fault.stage tells for leads gone.sends_it in
    let here = sound-on-air g.S.AirStage.summed (g.S.AirStage.airs first) c.loop-fault.air c.loop-fault.stage purpose ps gone.sent
    (λ (qs : List (List ℕ)). g.K.PacketSink.holds c.read_next.new.out start (before ++ qs)) s airs (c.in-Ok-true.ensures.held start (before ++ gone.sent) gone.out) in
    let on = c.in-Ok.ensures.out first purpose ss start before s.stands reads here in
    let more = given_more _ _ _ _ _ _ ps p n r e.0 in
    let (rest, left, all) = read-on bs _ (ps ++ p ∷ []) (rw given at more.read) in
    let one : stretches purpose (reverse (ps ++ p ∷ [])) ≡ with_next purpose p ss = ap (stretches purpose) (reverse-append ps (p ∷ [])) in
    let whole : stretches purpose (reverse (packets_of bs)) ≡ all_next purpose (packets_of rest) (with_next purpose p ss) =
    ap (λ l. stretches purpose (reverse l)) all ∙ stretches-append purpose (ps ++ p ∷ []) (packets_of rest) ∙ ap (all_next purpose (packets_of rest)) one in
    IfOk-weaker c.go_on.result _ _ (λ told w. subst (λ l. EndsOnAir g.S.AirStage.summed (g.S.AirStage.airs_to_end first) purpose l told.report c.go_on.new.stage (λ (qs : List (List ℕ)). g.K.PacketSink.holds c.go_on.new.out start (before ++ qs))) (sym whole) w)
    (c.go_on.ensures.out first purpose (with_next purpose p ss) start before rest stands follows on left)

-- ---- before the first packet

pub loop-fault-init : goal.loop-fault-init
loop-fault-init g c = (
  [],
  given_none _ _,
  g.met.S.Stage.leads_refl c.args.stage.now,
  tt,
  g.met.P.PacketSource.leads_refl _,
  g.met.K.PacketSink.leads_refl _,
  c.new-air.ensures.plain,
  λ start before begins is_held. (
    gone_begins g.S.Stage.refusal g.S.Stage.sends c.args.stage.now _ (λ qs. g.K.PacketSink.holds c.args.out.now start (before ++ qs)) (begins _)
        (subst (g.K.PacketSink.holds c.args.out.now start) (sym (append-nil before)) is_held),
    λ purpose for. sound-none c.new-air.result purpose c.new-air.ensures.none (c.new-air.ensures.stands purpose) (c.new-air.ensures.tail purpose) c.new-air.ensures.ended,
  ),
)

-- ---- a packet without a fault

pub loop-fault-preserved-in-Ok-true-step : goal.loop-fault-preserved-in-Ok-true-step
loop-fault-preserved-in-Ok-true-step g c =
    let (ps, n, leads, bytes, reads, writes, plain, run) = c.loop-fault.invariant in
    let p = c.read_next.new.next in
    let r = rw c.in-Ok-true.field-0-test at c.in-Ok-true.ensures.read in
    let e = rw c.in-Ok-true.field-0-test at c.in-Ok-true.ensures.given in
    let none : c.look.result ≡ None = search rules in (
      ps ++ p ∷ [],
      given_more _ _ _ _ _ _ ps p n r e.0,
      g.met.S.Stage.leads_trans _ _ _ leads c.in-Ok-true-step.ensures.stage,
      bytes-next ps p bytes c.in-Ok-true.ensures.bytes,
      g.met.P.PacketSource.leads_trans _ _ _ reads c.in-Ok-true.ensures.reads,
      g.met.K.PacketSink.leads_trans _ _ _ (g.met.K.PacketSink.leads_trans _ _ _ writes c.in-Ok-true.ensures.leads) c.in-Ok-true-step.ensures.leads,
      c.take.ensures.plain ps p plain,
      λ start before begins is_held.
          let (gone, sound) = run start before begins is_held in
          let went = rw c.in-Ok-true-step.field-0-test at (c.in-Ok-true-step.ensures.ok c.args.stage.now ps gone.sent start before gone.sends_it (c.in-Ok-true.ensures.held start (before ++ gone.sent) gone.out)) in (
            gone_more g.S.Stage.refusal g.S.Stage.sends c.args.stage.now ps p _ c.step.new.packet c.loop-fault.stage c.step.new.self _ (λ qs. g.K.PacketSink.holds c.step.new.out start (before ++ qs)) gone went,
            λ purpose for.
                let f = g.met.S.AirStage.sends_follows c.args.stage.now purpose ps gone.sent _ c.loop-fault.stage for leads gone.sends_it in
                sound-next c.loop-fault.air c.take.new.self purpose ps p (sound purpose for) c.take.ensures.counted (sym (c.look.ensures.follows purpose (reverse ps) f) ∙ none)
                (c.take.ensures.tail purpose (reverse ps) f (sound purpose for).tail) c.take.ensures.ended,
          ),
    )

pub loop-fault-preserved : goal.loop-fault-preserved
loop-fault-preserved g c =
    let (ps, n, leads, bytes, reads, writes, plain, run) = c.loop-fault.invariant in
    let p = c.read_next.new.next in
    let r = rw c.in-Ok-true.field-0-test at c.in-Ok-true.ensures.read in
    let e = rw c.in-Ok-true.field-0-test at c.in-Ok-true.ensures.given in
    let none : c.look.result ≡ None = search rules in (
      ps ++ p ∷ [],
      given_more _ _ _ _ _ _ ps p n r e.0,
      g.met.S.Stage.leads_trans _ _ _ leads c.in-Ok-false-step.ensures.stage,
      bytes-next ps p bytes c.in-Ok-true.ensures.bytes,
      g.met.P.PacketSource.leads_trans _ _ _ reads c.in-Ok-true.ensures.reads,
      g.met.K.PacketSink.leads_trans _ _ _ (g.met.K.PacketSink.leads_trans _ _ _ writes c.in-Ok-true.ensures.leads) c.in-Ok-false-step.ensures.leads,
      c.take.ensures.plain ps p plain,
      λ start before begins is_held.
          let (gone, sound) = run start before begins is_held in
          let went = rw c.in-Ok-false-step.field-0-test at (c.in-Ok-false-step.ensures.ok c.args.stage.now ps gone.sent start before gone.sends_it (c.in-Ok-true.ensures.held start (before ++ gone.sent) gone.out)) in (
            gone_more g.S.Stage.refusal g.S.Stage.sends c.args.stage.now ps p _ _ c.loop-fault.stage c.step.new.self _ (λ qs. g.K.PacketSink.holds c.step.new.out start (before ++ qs)) gone went,
            λ purpose for.
                let f = g.met.S.AirStage.sends_follows c.args.stage.now purpose ps gone.sent _ c.loop-fault.stage for leads gone.sends_it in
                sound-next c.loop-fault.air c.take.new.self purpose ps p (sound purpose for) c.take.ensures.counted (sym (c.look.ensures.follows purpose (reverse ps) f) ∙ none)
                (c.take.ensures.tail purpose (reverse ps) f (sound purpose for).tail) c.take.ensures.ended,
          ),
    )

-- ---- the end

pub returns-clause-sound : goal.returns-clause-sound
returns-clause-sound g c = λ start before bs begins is_held given none.
    let (ps, n, leads, bytes, reads, writes, plain, run) = c.loop-fault.invariant in
    let r = rw c.in-Ok-false.field-0-test at c.in-Ok-false.ensures.read in
    let (gone, sound) = run start before begins is_held in
    let all = rw given at (read_to_end _ _ ps n.read r.0) in
    let done = c.finish.ensures.plain c.args.stage.now ps gone.sent _ start before gone.sends_it (c.in-Ok-false.ensures.held start (before ++ gone.sent) gone.out) plain in
    IfOk-weaker c.finish.result _ _ (λ told w. record {
      sent = w.2.sent;
      report = w.0;
      ends_so = subst (λ l. g.S.Stage.ends c.args.stage.now l w.2.sent w.0 c.finish.new.stage) (sym all.0) w.2.ends_so;
      tells = subst (λ l. IsToldPlain told l w.0) (sym all.0) w.1;
      out = w.2.out;
    }) done

pub returns-clause-stretches : goal.returns-clause-stretches
returns-clause-stretches g c = λ purpose start before bs for begins is_held given.
    let (ps, n, leads, bytes, reads, writes, plain, run) = c.loop-fault.invariant in
    let r = rw c.in-Ok-false.field-0-test at c.in-Ok-false.ensures.read in
    let (gone, sound) = run start before begins is_held in
    let all = rw given at (read_to_end _ _ ps n.read r.0) in
    let s = sound purpose for in
    IfOk-weaker c.finish.result _ _ (λ told w.
    subst (λ l. TellsOf told (stretches purpose (reverse l))) (sym all.0) (record { count = w.0 ∙ s.stands.stretches; unjudged = w.1 ∙ s.stands.unjudged })) c.finish.ensures.told

pub returns-clause-out : goal.returns-clause-out
returns-clause-out g c = λ purpose start before bs for tells begins is_held given.
    let (ps, n, leads, bytes, reads, writes, plain, run) = c.loop-fault.invariant in
    let r = rw c.in-Ok-false.field-0-test at c.in-Ok-false.ensures.read in
    let (gone, sound) = run start before begins is_held in
    let s = sound purpose for in
    let all = rw given at (read_to_end _ _ ps n.read r.0) in
    let first = c.args.stage.now in
    let airs = g.met.S.AirStage.sends_airs first purpose ps gone.sent _ c.loop-fault.stage tells for leads gone.sends_it in
    let here = sound-on-air g.S.AirStage.summed (g.S.AirStage.airs first) c.loop-fault.air c.loop-fault.stage purpose ps gone.sent
    (λ (qs : List (List ℕ)). g.K.PacketSink.holds c.read_next.new.out start (before ++ qs)) s airs (c.in-Ok-false.ensures.held start (before ++ gone.sent) gone.out) in
    IfOk-weaker c.finish.result _ _ (λ told w.
    subst (λ l. EndsOnAir g.S.AirStage.summed (g.S.AirStage.airs_to_end first) purpose (stretches purpose (reverse l)) told.report c.finish.new.stage (λ (qs : List (List ℕ)). g.K.PacketSink.holds c.finish.new.out start (before ++ qs))) (sym all.0) w)
    (c.finish.ensures.out first purpose (stretches purpose (reverse ps)) start before here)

pub returns-clause-bytes : goal.returns-clause-bytes
returns-clause-bytes g c = λ bs given.
    let (ps, n, leads, bytes, reads, writes, plain, run) = c.loop-fault.invariant in
    let r = rw c.in-Ok-false.field-0-test at c.in-Ok-false.ensures.read in
    let all = rw given at (read_to_end _ _ ps n.read r.0) in
    on-ok-always c.finish.result (subst (λ l. ArePacketsOfBytes (reverse l)) (sym all.0) bytes)

pub returns-in-Ok-clause-bytes : goal.returns-in-Ok-clause-bytes
returns-in-Ok-clause-bytes g c = λ bs given.
    let (ps, n, leads, bytes, reads, writes, plain, run) = c.loop-fault.invariant in
    let p = c.read_next.new.next in
    let r = rw c.in-Ok-true.field-0-test at c.in-Ok-true.ensures.read in
    let e = rw c.in-Ok-true.field-0-test at c.in-Ok-true.ensures.given in
    let more = given_more _ _ _ _ _ _ ps p n r e.0 in
    let (rest, left, all) = read-on bs _ (ps ++ p ∷ []) (rw given at more.read) in
    on_ok_weaker c.go_on.result (λ behind. subst (λ l. ArePacketsOfBytes (reverse l)) (sym all) (bytes-behind (ps ++ p ∷ []) (packets_of rest) (bytes-next ps p bytes c.in-Ok-true.ensures.bytes) behind)) (c.go_on.ensures.bytes rest left)
