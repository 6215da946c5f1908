use Rattle.std.proofs.Common.{[], ◌++◌, sym, subst}
use Rattle.std.specs.Prelude.{map}
use Rattle.std.proofs.lemmas.List.{append-nil}
use Rattle.ts_packet.specs.Runs.{onto}
use Rattle.ad_library.specs.Library.{held}
use Rattle.program_follower.specs.Purposes.{reading_cues}
use Rattle.program_follower.specs.Following.{IsPartOf}
use Rattle.injector.specs.Steps.{packets_in, cued}
use Rattle.injector.proofs.PassedLemmas.{goes-on-sent}
use Rattle.splice_plans.specs.Adverts.{setting_of}
use Rattle.splice_plans.specs.Switching.{switched_at_packet}
use Rattle.splice_plans.specs.Stepping.{puts_next}
use Rattle.splice_switch.specs.Standing.{SwitchStandsFor, SwitchStandsAt}
use Rattle.chain_engine.specs.Airing.{judged}
use Rattle.chain_engine.specs.Switched.{journey_of, aired_onto, aired_over}
use Rattle.chain_engine.specs.Passing.{switched_over}
use Rattle.chain_engine.proofs.NestedLemmas.{by_kept}
use Rattle.chain_engine.proofs.PassingLemmas.{one_more}
use Rattle.chain_engine.proofs.MoreLemmas.{alone-read}
use Rattle.chain_engine.proofs.ChainedLemmas.{read-next}
use Rattle.chain_engine.proofs.service.Service.go_on.Goals as goal

pub returns-in-Ok-clause-ok : goal.returns-in-Ok-clause-ok
returns-in-Ok-clause-ok g c = λ d steps start ps alone stands is_held.
    let f = held c.args.library.now in
    let p = c.args.packet.now in
    let k = setting_of d f in
    let past = cued d steps in
    let sent = goes-on-sent d c.args.of p steps alone in
    let more = alone-read d c.args.of p steps stands.network c.of_bytes.ensures alone in (
      record {
        injector = c.go_on.ensures.stands d steps stands.injector alone;
        switch = subst (λ qs. SwitchStandsFor c.go_on-2.new.self d f (onto past qs)) (sym sent) (c.in-Ok.ensures.stands d past stands.switch more);
        network = one_more d p (packets_in steps) stands.network c.of_bytes.ensures alone.goes_on.sound;
        config = stands.config;
      },
      subst (λ qs. g.K.PacketSink.holds c.go_on-2.new.sink start (ps ++ switched_over k past qs)) (sym sent)
          (subst (λ l. g.K.PacketSink.holds c.go_on-2.new.sink start (ps ++ l)) (sym (append-nil (switched_at_packet k p past)))
          (c.in-Ok.ensures.ok start ps d past is_held stands.switch more)),
    )

pub returns-in-Ok-clause-airs : goal.returns-in-Ok-clause-airs
returns-in-Ok-clause-airs g c = λ d steps fed start ps alone h is_held.
    let f = held c.args.library.now in
    let p = c.args.packet.now in
    let k = setting_of d f in
    let sent = goes-on-sent d c.args.of p steps alone in
    let cued-more = alone-read d c.args.of p steps h.network c.of_bytes.ensures alone in
    let more = subst (λ past. IsPartOf (reading_cues d) c.args.of p past) (sym h.read) cued-more in
    record {
      airs = record {
        injector = c.go_on.ensures.stands d steps h.injector alone;
        switch = subst (λ qs. SwitchStandsAt c.go_on-2.new.self d f (journey_of k (aired_onto fed (map judged qs)))) (sym sent) (c.in-Ok.ensures.goes_on d (journey_of k fed) h.switch more);
        read = read-next d k (judged p) steps fed h.read;
        network = one_more d p (packets_in steps) h.network c.of_bytes.ensures alone.goes_on.sound;
        config = h.config;
      };
      out = subst (λ qs. g.K.PacketSink.holds c.go_on-2.new.sink start (ps ++ aired_over k fed (map judged qs))) (sym sent)
          (subst (λ l. g.K.PacketSink.holds c.go_on-2.new.sink start (ps ++ l)) (sym (append-nil (puts_next k (journey_of k fed) p)))
          (c.in-Ok.ensures.puts start ps d (journey_of k fed) is_held h.switch more));
    }

pub returns-in-Err-clause-err : goal.returns-in-Err-clause-err
returns-in-Err-clause-err g c = λ d steps start ps alone stands is_held.
    let p = c.args.packet.now in
    let more = alone-read d c.args.of p steps stands.network c.of_bytes.ensures alone in
    by_kept d (held c.args.library.now) start g.K.PacketSink.fails c.go_on-2.new.sink ps p steps (g.K.PacketSink.holds c.go_on-2.new.sink start ps) [] p []
    (one_more d p (packets_in steps) stands.network c.of_bytes.ensures alone.goes_on.sound) (goes-on-sent d c.args.of p steps alone)
    c.in-Err.fault (c.in-Err.ensures.err start ps d (cued d steps) is_held stands.switch more)
