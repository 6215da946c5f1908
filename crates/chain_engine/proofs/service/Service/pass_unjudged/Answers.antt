use Rattle.std.proofs.Common.{rules, ◌≡◌, None, [], ◌∷◌, ◌++◌, sym, subst, ◌∙◌}
use Rattle.ts_packet.specs.Fields.{marked}
use Rattle.wire_fields.specs.Numbers.{AreBytes}
use Rattle.program_follower.specs.Purposes.{writing_cues}
use Rattle.program_follower.specs.Faults.{network_fault}
use Rattle.injector.specs.Injecting.{InjectorStandsFor}
use Rattle.injector.specs.Steps.{Packet, packets_in, sent_at}
use Rattle.ad_library.specs.Library.{held}
use Rattle.splice_plans.specs.Adverts.{setting_of}
use Rattle.chain_engine.specs.Airing.{unjudged}
use Rattle.chain_engine.specs.Chained.{fed_as}
use Rattle.chain_engine.specs.Nested.{fed_behind, FeedingHolds}
use Rattle.chain_engine.proofs.NestedLemmas.{feeding_begins, fed_now}
use Rattle.chain_engine.proofs.PassingLemmas.{one_more}
use Rattle.chain_engine.proofs.ChainedLemmas.{read-next}
use Rattle.chain_engine.proofs.service.Service.pass_unjudged.Goals as goal

pub returns-in-Ok-clause-airs : goal.returns-in-Ok-clause-airs
returns-in-Ok-clause-airs g c = λ d steps fed start ps h is_held.
    let f = held c.args.library.now in
    let p = c.args.packet.now in
    let read = c.marked-read.result in
    let is_read : read ≡ marked p = c.marked-read.ensures in
    let holds = g.K.PacketSink.holds in
    let sink = c.feed.new.sink in
    let leads = c.in-Ok.ensures.leads in
    let sent = sent_at d (marked p) steps in
    let k = setting_of d f in
    let begins = subst (λ w. FeedingHolds holds (fed_as (unjudged p)) c.args.self.now.switch w f c.args.out.now start (fed_behind fed ps [])) (sym h.config)
    (feeding_begins holds d f start (fed_as (unjudged p)) c.args.self.now.switch c.args.out.now fed ps h.switch is_held) in
    let one = c.in-Ok.ensures.ok start (fed_behind fed ps []) d steps begins h.injector in
    let two = subst (λ w. FeedingHolds holds (fed_as (unjudged sink.packet.now)) sink.switch.now w (held sink.library.now) sink.out.now start (fed_behind fed ps [] ++ sent_at d read steps)) (leads.3 ∙ h.config) one in
    let three = subst (λ w. FeedingHolds holds (fed_as (unjudged sink.packet.now)) sink.switch.now d (held w) sink.out.now start (fed_behind fed ps [] ++ sent_at d read steps)) leads.2 two in
    let four = subst (λ w. FeedingHolds holds (fed_as (unjudged w)) sink.switch.now d f sink.out.now start (fed_behind fed ps [] ++ sent_at d read steps)) leads.4 three in
    let five = subst (λ q. FeedingHolds holds (fed_as (unjudged p)) sink.switch.now d f sink.out.now start (fed_behind fed ps [] ++ sent_at d q steps)) is_read four in
    let done = fed_now holds d f start (fed_as (unjudged p)) sink.switch.now sink.out.now fed ps sent five in
    let switch = done.stands in
    let is_out = done.is_out in
    let switch_name = leads.0 in
    let out_name = leads.1 in
    record {
      airs = record {
        injector = subst (λ q. InjectorStandsFor c.feed.new.self d (Packet q ∷ steps)) is_read (c.in-Ok.ensures.stands d steps h.injector);
        switch = search (rules, switch, switch_name);
        read = read-next d k (unjudged p) steps fed h.read;
        network = one_more d (marked p) (packets_in steps) h.network (subst AreBytes is_read c.of_bytes.ensures)
            (subst (λ q. network_fault (writing_cues d) q (packets_in steps) ≡ None) is_read (c.in-Ok.ensures.sound d steps h.injector));
        config = h.config;
      };
      out = search (rules, is_out, out_name);
    }
