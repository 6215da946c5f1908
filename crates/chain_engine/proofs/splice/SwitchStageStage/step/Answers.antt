use Rattle.std.proofs.Common.{ℕ, List, [], ◌∷◌, ◌++◌, ◌∙◌, reverse, sym, ap, subst, append_assoc}
use Rattle.std.proofs.lemmas.List.{reverse-append}
use Rattle.packet_runs.specs.Stages.{StepBlamed}
use Rattle.ad_library.specs.Library.{held}
use Rattle.splice_plans.specs.Adverts.{setting_of}
use Rattle.splice_plans.specs.Switching.{switched_at_packet}
use Rattle.splice_switch.specs.Standing.{SwitchStandsFor, FeedFails}
use Rattle.chain_engine.specs.Splices.{switch_sends}
use Rattle.chain_engine.proofs.SpliceLemmas.{sent_more}
use Rattle.chain_engine.proofs.StageLemmas.{switch_fails_so, splice_step_fails, stage_blamed}
use Rattle.chain_engine.proofs.splice.SwitchStageStage.step.Goals as goal

pub returns-in-Ok-clause-ok : goal.returns-in-Ok-clause-ok
returns-in-Ok-clause-ok g c = λ first ps qs start before s is_held.
    let d = first.config in
    let p = c.args.packet.now in
    let own = c.args.self.now.library.now in
    let filed = held first.library.now in
    let stands = subst (λ l. SwitchStandsFor c.args.self.now.switch d (held l) (reverse ps)) (sym s.0) s.1.stands in
    let now = subst (λ l. SwitchStandsFor c.feed_with_same.new.self d (held l) (p ∷ reverse ps)) s.0 (c.in-Ok.ensures.stands d (reverse ps) stands) in
    let out = subst (λ l. g.K.PacketSink.holds c.feed_with_same.new.sink start ((before ++ qs) ++ switched_at_packet (setting_of d (held l)) p (reverse ps))) s.0 (c.in-Ok.ensures.ok start (before ++ qs) d (reverse ps) is_held stands) in
    record {
      sent = qs ++ switched_at_packet (setting_of d filed) p (reverse ps);
      sound = c.in-Ok.ensures.sound d (reverse ps) stands;
      sends_it = (
        s.0,
        record {
          stands = subst (SwitchStandsFor c.feed_with_same.new.self d filed) (sym (reverse-append ps (p ∷ []))) now;
          sent = sym (sent_more d filed ps p) ∙ ap (λ l. l ++ switched_at_packet (setting_of d filed) p (reverse ps)) s.1.sent;
        },
      );
      out = subst (g.K.PacketSink.holds c.feed_with_same.new.sink start) (append_assoc before qs (switched_at_packet (setting_of d filed) p (reverse ps))) out;
    }

pub returns-in-Err-clause-err : goal.returns-in-Err-clause-err
returns-in-Err-clause-err g c = λ first ps qs start before s is_held.
    let d = first.config in
    let p = c.args.packet.now in
    let filed = held first.library.now in
    let is_out = (λ (sink : g.row.K.Denot) (l : List (List ℕ)). g.K.PacketSink.holds sink start (before ++ l)) in
    let fails = (λ (l : List (List ℕ)). g.K.PacketSink.fails c.feed_with_same.new.sink start (before ++ l)) in
    let stands = subst (λ l. SwitchStandsFor c.args.self.now.switch d (held l) (reverse ps)) (sym s.0) s.1.stands in
    let feed = subst (λ l. FeedFails c.in-Err.fault d (held l) p (reverse ps) (λ put q x. g.K.PacketSink.fails c.feed_with_same.new.sink start ((before ++ qs) ++ put) q x)) s.0 (c.in-Err.ensures.err start (before ++ qs) d (reverse ps) is_held stands) in
    splice_step_fails _ _ _ first _ is_out fails c.args.out.now c.feed_with_same.new.sink ps qs p is_held d filed s.1.sent (λ f e. e) (λ r. r) (λ put q b. b)
    c.stage_fault.result c.in-Err.fault c.stage_fault.ensures c.in-Err.ensures.kept
    (switch_fails_so c.in-Err.fault d filed p (reverse ps) (λ put q x. g.K.PacketSink.fails c.feed_with_same.new.sink start ((before ++ qs) ++ put) q x) (λ put q x. fails (switch_sends d filed ps ++ put) q x)
    (λ put q x h. subst (λ l. fails (l ++ put) q x) (sym s.1.sent) (subst (λ l. g.K.PacketSink.fails c.feed_with_same.new.sink start l q x) (append_assoc before qs put) h)) feed)

pub returns-in-Err-clause-blamed : goal.returns-in-Err-clause-blamed
returns-in-Err-clause-blamed g c =
    subst (λ f. StepBlamed f (g.K.PacketSink.counts c.args.out.now) (g.K.PacketSink.counts c.feed_with_same.new.sink) (g.K.PacketSink.is_full c.feed_with_same.new.sink)) (sym c.stage_fault.ensures) (stage_blamed c.in-Err.fault _ _ _ c.in-Err.ensures.blamed)
