use Rattle.std.proofs.Common.{rules, [], ◌++◌, ◌∙◌, sym, ap, subst}
use Rattle.ad_library.specs.Library.{held}
use Rattle.injector.specs.Steps.{packets_in, cued, sent_at}
use Rattle.injector.specs.Injecting.{FeedFails}
use Rattle.splice_plans.specs.Adverts.{setting_of}
use Rattle.splice_switch.specs.Standing.{SwitchStandsAt}
use Rattle.std.specs.Prelude.{map}
use Rattle.ts_packet.specs.Runs.{onto}
use Rattle.chain_engine.specs.Airing.{judged}
use Rattle.chain_engine.specs.Switched.{journey_of, journey-first}
use Rattle.chain_engine.specs.Chained.{judged-onto}
use Rattle.chain_engine.specs.Nested.{fed_behind, FeedingHolds, FeedingFails}
use Rattle.chain_engine.proofs.NestedLemmas.{feeding_begins, fed_now, judged-over, pass_stops}
use Rattle.chain_engine.proofs.PassingLemmas.{one_more}
use Rattle.chain_engine.proofs.ChainedLemmas.{read-next}
use Rattle.chain_engine.proofs.service.Service.pass_on.Goals as goal

pub returns-in-Ok-clause-ok : goal.returns-in-Ok-clause-ok
returns-in-Ok-clause-ok g c = λ d steps start ps stands is_held.
    let f = held c.args.library.now in
    let p = c.args.packet.now in
    let sink = c.feed-fed.new.sink in
    let leads = c.in-Ok.ensures.leads in
    let sent = sent_at d p steps in
    let past = cued d steps in
    let k = setting_of d f in
    let coming = map judged past in
    let here = subst (SwitchStandsAt c.args.self.now.switch d f) (sym (journey-first k past)) stands.switch in
    let begins = subst (λ w. FeedingHolds g.K.PacketSink.holds judged c.args.self.now.switch w f c.args.out.now start (fed_behind coming ps [])) (sym stands.config)
    (feeding_begins g.K.PacketSink.holds d f start judged c.args.self.now.switch c.args.out.now coming ps here is_held) in
    let one = c.in-Ok.ensures.ok start (fed_behind coming ps []) d steps begins stands.injector in
    let two = subst (λ w. FeedingHolds g.K.PacketSink.holds judged sink.switch.now w (held sink.library.now) sink.out.now start (fed_behind coming ps [] ++ sent)) (leads.3 ∙ stands.config) one in
    let three = subst (λ w. FeedingHolds g.K.PacketSink.holds judged sink.switch.now d (held w) sink.out.now start (fed_behind coming ps [] ++ sent)) leads.2 two in
    let done = fed_now g.K.PacketSink.holds d f start judged sink.switch.now sink.out.now coming ps sent three in
    let switch = subst (SwitchStandsAt sink.switch.now d f) (ap (journey_of k) (judged-onto past sent) ∙ journey-first k (onto past sent)) done.stands in
    let is_out = subst (λ l. g.K.PacketSink.holds sink.out.now start (ps ++ l)) (judged-over k past sent) done.is_out in
    let switch_name = leads.0 in
    let out_name = leads.1 in (
      record {
        injector = c.in-Ok.ensures.stands d steps stands.injector;
        switch = search (rules, switch, switch_name);
        network = one_more d p (packets_in steps) stands.network c.of_bytes.ensures (c.in-Ok.ensures.sound d steps stands.injector);
        config = stands.config;
      },
      search (rules, is_out, out_name),
    )

pub returns-in-Ok-clause-airs : goal.returns-in-Ok-clause-airs
returns-in-Ok-clause-airs g c = λ d steps fed start ps h is_held.
    let f = held c.args.library.now in
    let p = c.args.packet.now in
    let sink = c.feed-fed.new.sink in
    let leads = c.in-Ok.ensures.leads in
    let sent = sent_at d p steps in
    let k = setting_of d f in
    let begins = subst (λ w. FeedingHolds g.K.PacketSink.holds judged c.args.self.now.switch w f c.args.out.now start (fed_behind fed ps [])) (sym h.config)
    (feeding_begins g.K.PacketSink.holds d f start judged c.args.self.now.switch c.args.out.now fed ps h.switch is_held) in
    let one = c.in-Ok.ensures.ok start (fed_behind fed ps []) d steps begins h.injector in
    let two = subst (λ w. FeedingHolds g.K.PacketSink.holds judged sink.switch.now w (held sink.library.now) sink.out.now start (fed_behind fed ps [] ++ sent)) (leads.3 ∙ h.config) one in
    let three = subst (λ w. FeedingHolds g.K.PacketSink.holds judged sink.switch.now d (held w) sink.out.now start (fed_behind fed ps [] ++ sent)) leads.2 two in
    let done = fed_now g.K.PacketSink.holds d f start judged sink.switch.now sink.out.now fed ps sent three in
    let switch = done.stands in
    let is_out = done.is_out in
    let switch_name = leads.0 in
    let out_name = leads.1 in
    record {
      airs = record {
        injector = c.in-Ok.ensures.stands d steps h.injector;
        switch = search (rules, switch, switch_name);
        read = read-next d k (judged p) steps fed h.read;
        network = one_more d p (packets_in steps) h.network c.of_bytes.ensures (c.in-Ok.ensures.sound d steps h.injector);
        config = h.config;
      };
      out = search (rules, is_out, out_name);
    }

pub returns-in-Err-clause-err : goal.returns-in-Err-clause-err
returns-in-Err-clause-err g c = λ d steps start ps stands is_held.
    let f = held c.args.library.now in
    let p = c.args.packet.now in
    let sink = c.feed-fed.new.sink in
    let leads = c.in-Err.ensures.leads in
    let fault = c.in-Err.fault in
    let past = cued d steps in
    let k = setting_of d f in
    let coming = map judged past in
    let here = subst (SwitchStandsAt c.args.self.now.switch d f) (sym (journey-first k past)) stands.switch in
    let begins = subst (λ w. FeedingHolds g.K.PacketSink.holds judged c.args.self.now.switch w f c.args.out.now start (fed_behind coming ps [])) (sym stands.config)
    (feeding_begins g.K.PacketSink.holds d f start judged c.args.self.now.switch c.args.out.now coming ps here is_held) in
    let one = c.in-Err.ensures.err start (fed_behind coming ps []) d steps begins stands.injector in
    let two = subst (λ w. FeedFails fault d p steps (λ put q x. FeedingFails g.K.PacketSink.fails sink.fault w (held sink.library.now) sink.out.now start (fed_behind coming ps [] ++ put) q x)) (leads.3 ∙ stands.config) one in
    let three = subst (λ w. FeedFails fault d p steps (λ put q x. FeedingFails g.K.PacketSink.fails sink.fault d (held w) sink.out.now start (fed_behind coming ps [] ++ put) q x)) leads.2 two in
    let failed = pass_stops d f start g.K.PacketSink.fails sink.out.now ps p steps (g.K.PacketSink.holds sink.out.now start ps) sink.fault fault c.unwrap_or.result c.unwrap_or.ensures
    (λ x is. let kept = rw is at c.in-Err.ensures.kept in (ap (λ w. w.fault) kept, subst (λ w. g.K.PacketSink.holds w start ps) (sym (ap (λ w. w.out.now) kept)) is_held))
    stands.network c.of_bytes.ensures (c.in-Err.ensures.found d steps stands.injector) three in
    let out_name = leads.1 in
    search (rules, failed, out_name)
