use Rattle.std.proofs.Common.{ℕ, List, [], ◌∷◌, ◌++◌, reverse, sym, subst, ap, ◌∙◌}
use Rattle.std.specs.Prelude.{IfOk}
use Rattle.std.proofs.lemmas.Result.{IfOk-weaker}
use Rattle.ts_packet.proofs.RunBlameLemmas.{given_none, given_more}
use Rattle.ts_packet.proofs.PacketsLemmas.{read_to_end}
use Rattle.on_air.specs.Stretches.{as_read}
use Rattle.on_air.specs.AirRuns.{AirStands, TellsOf, newest, all_next}
use Rattle.on_air.specs.AirOutputs.{IsOnAir, EndsOnAir}
use Rattle.cued_laws.specs.Laws.{ArePacketsOfBytes}
use Rattle.on_air.proofs.LoopLemmas.{next-append, bytes-next, on-ok-always}
use Rattle.on_air.proofs.OutputLemmas.{still-on-air}
use Rattle.on_air.proofs.running.go_on.Goals as goal

pub loop-fault-init : goal.loop-fault-init
loop-fault-init g c = ([], given_none _ _, tt, g.met.S.Stage.leads_refl _, g.met.P.PacketSource.leads_refl _, g.met.K.PacketSink.leads_refl _, λ purpose ss stands follows. (stands, follows, λ first start before air. air))

pub loop-fault-preserved : goal.loop-fault-preserved
loop-fault-preserved g c =
    let (ps, n, bytes, stage, reads, leads, run) = c.loop-fault.invariant in
    let q = c.read_next.new.next in
    let r = rw c.in-Ok-true.field-0-test at c.in-Ok-true.ensures.read in
    let e = rw c.in-Ok-true.field-0-test at c.in-Ok-true.ensures.given in (
      ps ++ q ∷ [],
      given_more _ _ _ _ _ _ ps q n r e.0,
      bytes-next ps q bytes c.in-Ok-true.ensures.bytes,
      g.met.S.Stage.leads_trans _ _ _ stage c.in-Ok.ensures.stage,
      g.met.P.PacketSource.leads_trans _ _ _ reads c.in-Ok-true.ensures.reads,
      g.met.K.PacketSink.leads_trans _ _ _ (g.met.K.PacketSink.leads_trans _ _ _ leads c.in-Ok-true.ensures.leads) c.in-Ok.ensures.leads,
      λ purpose ss stands follows.
          let (s, f, on) = run purpose ss stands follows in
          let next = sym (next-append purpose ps q ss) in
          let (s', f') = c.in-Ok.ensures.stands purpose (all_next purpose ps ss) s f in (
            subst (AirStands c.pass.new.self purpose) next s',
            subst (λ w. g.S.AirStage.follows c.pass.new.stage purpose (as_read (newest w))) next f',
            λ first start before air.
                let here = still-on-air g.S.AirStage.summed (g.S.AirStage.airs first) c.loop-fault.air c.loop-fault.stage purpose (all_next purpose ps ss)
                (λ (qs : List (List ℕ)). g.K.PacketSink.holds c.loop-fault.out start (before ++ qs)) (λ (qs : List (List ℕ)). g.K.PacketSink.holds c.read_next.new.out start (before ++ qs))
                (λ qs h. c.in-Ok-true.ensures.held start (before ++ qs) h) (on first start before air) in
                subst (λ w. IsOnAir g.S.AirStage.summed (g.S.AirStage.airs first) c.pass.new.self c.pass.new.stage purpose w (λ (qs : List (List ℕ)). g.K.PacketSink.holds c.pass.new.out start (before ++ qs))) next
                (c.in-Ok.ensures.out first purpose (all_next purpose ps ss) start before s f here),
          ),
    )

pub returns-clause-stretches : goal.returns-clause-stretches
returns-clause-stretches g c = λ purpose ss bs stands follows given.
    let (ps, n, bytes, stage, reads, leads, run) = c.loop-fault.invariant in
    let r = rw c.in-Ok-false.field-0-test at c.in-Ok-false.ensures.read in
    let all = rw given at (read_to_end _ _ ps n.read r.0) in
    let now = (run purpose ss stands follows).0 in
    IfOk-weaker c.finish.result _ _ (λ told w.
    subst (λ l. TellsOf told (all_next purpose l ss)) (sym all.0) (record { count = w.0 ∙ now.stretches; unjudged = w.1 ∙ now.unjudged })) c.finish.ensures.told

pub returns-clause-out : goal.returns-clause-out
returns-clause-out g c = λ first purpose ss start before bs stands follows air given.
    let (ps, n, bytes, stage, reads, leads, run) = c.loop-fault.invariant in
    let r = rw c.in-Ok-false.field-0-test at c.in-Ok-false.ensures.read in
    let all = rw given at (read_to_end _ _ ps n.read r.0) in
    let on = (run purpose ss stands follows).2 first start before air in
    let here = still-on-air g.S.AirStage.summed (g.S.AirStage.airs first) c.loop-fault.air c.loop-fault.stage purpose (all_next purpose ps ss)
    (λ (qs : List (List ℕ)). g.K.PacketSink.holds c.loop-fault.out start (before ++ qs)) (λ (qs : List (List ℕ)). g.K.PacketSink.holds c.read_next.new.out start (before ++ qs))
    (λ qs h. c.in-Ok-false.ensures.held start (before ++ qs) h) on in
    IfOk-weaker c.finish.result _ _ (λ told w.
    subst (λ l. EndsOnAir g.S.AirStage.summed (g.S.AirStage.airs_to_end first) purpose (all_next purpose l ss) told.report c.finish.new.stage (λ (qs : List (List ℕ)). g.K.PacketSink.holds c.finish.new.out start (before ++ qs))) (sym all.0) w)
    (c.finish.ensures.out first purpose (all_next purpose ps ss) start before here)

pub returns-clause-bytes : goal.returns-clause-bytes
returns-clause-bytes g c = λ bs given.
    let (ps, n, bytes, stage, reads, leads, run) = c.loop-fault.invariant in
    let r = rw c.in-Ok-false.field-0-test at c.in-Ok-false.ensures.read in
    let all = rw given at (read_to_end _ _ ps n.read r.0) in
    on-ok-always c.finish.result (subst (λ l. ArePacketsOfBytes (reverse l)) (sym all.0) bytes)
