use Rattle.std.proofs.Common.{◌++◌, ◌∷◌, ◌+◌, ◌∙◌, length, sym, ap, subst, append_assoc}
use Rattle.program_follower.specs.Purposes.{writing_cues}
use Rattle.std.specs.Prelude.{◌≡◌, None}
use Rattle.program_follower.specs.Faults.{network_fault}
use Rattle.injector.specs.Steps.{Packet as PacketStep, packets_in}
use Rattle.ad_library.specs.Library.{held}
use Rattle.chain_engine.specs.Talks.{judged_before, loses}
use Rattle.chain_engine.specs.Passing.{ServiceStandsFor, chain_at}
use Rattle.chain_engine.specs.ChainRuns.{heard_steps, chain_sends}
use Rattle.chain_engine.proofs.ChainLemmas.{asked_sends, hears_so}
use Rattle.chain_engine.proofs.PassingLemmas.{chain-more, last-sound, pass-fails-so}
use Rattle.chain_engine.proofs.StepsLemmas.{asked_packets}
use Rattle.chain_engine.proofs.chain.Chain.step_with_same.Goals as goal

pub returns-in-Ok-clause-ok : goal.returns-in-Ok-clause-ok
returns-in-Ok-clause-ok g c = λ ts n k steps start before h.
    let d = c.args.self.now.service.config in
    let filed = held c.args.library.now in
    let p = c.args.packet.now in
    let (more, rs, talk, replied) = c.hear.ensures.talk ts n k h.talk in
    let ms = judged_before (n + length rs) (ts ++ more) k in
    let now = heard_steps (ts ++ more) (n + length rs) k steps in
    let holds = g.K.PacketSink.holds c.pass.new.out start in
    let (hears, stands) = hears_so g.U.Automation.exchanges c.args.automation.now c.hear.new.automation (loses c.args.self.now.talk.end c.hear.new.self.talk.end) d filed ts n k steps more rs
    c.args.self.now.service c.hear.new.self.service replied h.service in
    let (goes, out) = c.in-Ok.ensures.ok d now start (before ++ chain_sends d filed steps) stands h.out in
    let sent = chain_at d filed p now in
    let is_out = subst holds (append_assoc before (chain_sends d filed steps) sent ∙ ap (λ l. before ++ (l ++ sent)) (sym (asked_sends d filed ms steps)) ∙ ap (λ l. before ++ l) (sym (chain-more d filed p now))) out in
    record {
      config = goes.config;
      more = more;
      rs = rs;
      hears = hears;
      sound = subst (λ q. network_fault (writing_cues d) p q ≡ None) (asked_packets ms steps) (last-sound d p (packets_in now) goes.network);
      stands = record {
        talk = talk;
        service = subst (λ w. ServiceStandsFor c.pass.new.self w filed (PacketStep p ∷ now)) (sym goes.config) goes;
        out = subst (λ w. holds (before ++ chain_sends w filed (PacketStep p ∷ now))) (sym goes.config) is_out;
        whole = c.hear.ensures.spent ∙ h.whole;
      };
    }

pub returns-in-Err-clause-err : goal.returns-in-Err-clause-err
returns-in-Err-clause-err g c = λ ts n k steps start before h.
    let d = c.args.self.now.service.config in
    let filed = held c.args.library.now in
    let (more, rs, talk, replied) = c.hear.ensures.talk ts n k h.talk in
    let now = heard_steps (ts ++ more) (n + length rs) k steps in
    let (hears, stands) = hears_so g.U.Automation.exchanges c.args.automation.now c.hear.new.automation (loses c.args.self.now.talk.end c.hear.new.self.talk.end) d filed ts n k steps more rs
    c.args.self.now.service c.hear.new.self.service replied h.service in
    let fails = g.K.PacketSink.fails c.pass.new.out start in
    record {
      more = more;
      rs = rs;
      hears = hears;
      talk = talk;
      why = pass-fails-so c.in-Err.fault d filed c.args.packet.now now _ (λ put q x. fails ((before ++ chain_sends d filed steps) ++ put) q x) (λ put q x. fails (before ++ (chain_sends d filed steps ++ put)) q x)
          (λ put q x. subst (λ l. fails l q x) (append_assoc before (chain_sends d filed steps) put)) (c.in-Err.ensures.err d now start (before ++ chain_sends d filed steps) stands h.out);
    }
