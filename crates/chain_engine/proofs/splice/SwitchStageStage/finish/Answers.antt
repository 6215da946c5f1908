use Rattle.std.proofs.Common.{ℕ, List, ◌++◌, reverse, sym, ap, subst, append_assoc}
use Rattle.ts_packet.specs.Sinks.{Blamed}
use Rattle.ad_library.specs.Library.{held}
use Rattle.splice_plans.specs.Adverts.{setting_of}
use Rattle.splice_plans.specs.Switching.{rest_at}
use Rattle.splice_plans.specs.Reporting.{ReportIs, report_of}
use Rattle.splice_switch.specs.Standing.{SwitchStandsFor, FinishFails}
use Rattle.chain_engine.specs.Splices.{switch_sends}
use Rattle.chain_engine.proofs.StageLemmas.{spliced, rest_fails_so, splice_finish_fails, finish_blamed}
use Rattle.chain_engine.proofs.splice.SwitchStageStage.finish.Goals as goal

pub returns-in-Ok-clause-ok : goal.returns-in-Ok-clause-ok
returns-in-Ok-clause-ok g c = λ first ps qs kept start before s is_held.
    let d = first.config in
    let filed = held first.library.now in
    let stands = subst (λ l. SwitchStandsFor c.args.self.now.switch d (held l) (reverse ps)) (sym s.0) s.1.stands in
    let out = subst (λ l. g.K.PacketSink.holds c.finish.new.sink start ((before ++ qs) ++ rest_at (setting_of d (held l)) (reverse ps))) s.0 (c.in-Ok.ensures.ok start (before ++ qs) d (reverse ps) is_held stands) in
    let told = subst (λ l. ReportIs c.in-Ok.report (report_of (setting_of d (held l)) (reverse ps))) s.0 (c.in-Ok.ensures.report d (reverse ps) stands) in
    record {
      sent = qs ++ rest_at (setting_of d filed) (reverse ps);
      ends_so = spliced d filed ps (qs ++ rest_at (setting_of d filed) (reverse ps)) c.in-Ok.report (ap (λ l. l ++ rest_at (setting_of d filed) (reverse ps)) s.1.sent) told;
      out = subst (g.K.PacketSink.holds c.finish.new.sink start) (append_assoc before qs (rest_at (setting_of d filed) (reverse ps))) out;
    }

pub returns-in-Err-clause-err : goal.returns-in-Err-clause-err
returns-in-Err-clause-err g c = λ first ps qs kept start before s is_held.
    let d = first.config in
    let filed = held first.library.now in
    let fails = (λ (l : List (List ℕ)). g.K.PacketSink.fails c.finish.new.sink start (before ++ l)) in
    let stands = subst (λ l. SwitchStandsFor c.args.self.now.switch d (held l) (reverse ps)) (sym s.0) s.1.stands in
    let rest = subst (λ l. FinishFails c.in-Err.fault d (held l) (reverse ps) (λ put q x. g.K.PacketSink.fails c.finish.new.sink start ((before ++ qs) ++ put) q x)) s.0 (c.in-Err.ensures.err start (before ++ qs) d (reverse ps) is_held stands) in
    splice_finish_fails _ first _ fails d filed ps (λ put q b. b) c.put_fault.result c.in-Err.fault c.put_fault.ensures
    (rest_fails_so c.in-Err.fault d filed (reverse ps) (λ put q x. g.K.PacketSink.fails c.finish.new.sink start ((before ++ qs) ++ put) q x) (λ put q x. fails (switch_sends d filed ps ++ put) q x)
    (λ put q x h. subst (λ l. fails (l ++ put) q x) (sym s.1.sent) (subst (λ l. g.K.PacketSink.fails c.finish.new.sink start l q x) (append_assoc before qs put) h)) rest)

pub returns-in-Err-clause-blamed : goal.returns-in-Err-clause-blamed
returns-in-Err-clause-blamed g c =
    subst (λ f. Blamed f (g.K.PacketSink.counts c.args.out.now) (g.K.PacketSink.counts c.finish.new.sink) (g.K.PacketSink.is_full c.finish.new.sink)) (sym c.put_fault.ensures) (finish_blamed c.in-Err.fault _ _ _ c.in-Err.ensures.blamed)
