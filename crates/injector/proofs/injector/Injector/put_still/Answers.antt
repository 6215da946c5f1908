use Rattle.std.proofs.Common.{◌≡◌, ◌∷◌, ◌++◌, sym, ap, subst, ◌∙◌, OnOk, IfErr}
use Rattle.std.specs.Prelude.{Some}
use Rattle.ts_packet.specs.Runs.{onto}
use Rattle.outgoing_packets.specs.Numbers.{HasPut, FrontFails}
use Rattle.program_follower.specs.Purposes.{writing_cues}
use Rattle.program_follower.specs.Following.{StartsStandFor, high_of}
use Rattle.ts_packet.proofs.Cases.{on_ok_more}
use Rattle.injector.specs.Turns.{Passed, greatest_in}
use Rattle.injector.specs.Noting.{NotesStandFor}
use Rattle.injector.specs.Requests.{RequestsStandFor}
use Rattle.injector.specs.Steps.{packets_in, turns_in, cued, sent_at}
use Rattle.injector.specs.Injecting.{CountsAre, RestsAt}
use Rattle.injector.proofs.FeedLemmas.{turns-high}
use Rattle.outgoing_packets.proofs.GoOnLemmas.{all-more}
use Rattle.injector.proofs.GoOnLemmas.{sent-go-on}
use Rattle.injector.proofs.PassedLemmas.{alone, quiet-behind}
use Rattle.injector.proofs.injector.Injector.put_still.Goals as goal

pub returns-clause-ok : goal.returns-clause-ok
returns-clause-ok g c = λ start ps cfg past held s.
    subst (λ l. OnOk c.put_body.result (g.S.PacketSink.holds c.put_body.new.sink start (ps ++ l))) (sym (alone c.args.self.now cfg c.args.packet.now past s))
    (c.put_body.ensures.ok start ps s.followed.out.passed cfg (packets_in past) held s.followed.out.put s.followed.body)

pub returns-clause-err : goal.returns-clause-err
returns-clause-err g c = λ start ps cfg past held s.
    subst (λ l. IfErr c.put_body.result (λ f. FrontFails l (λ put q. g.S.PacketSink.fails c.put_body.new.sink start (ps ++ put) q f))) (sym (alone c.args.self.now cfg c.args.packet.now past s))
    (c.put_body.ensures.err start ps s.followed.out.passed cfg (packets_in past) held s.followed.out.put s.followed.body)

pub returns-clause-stands : goal.returns-clause-stands
returns-clause-stands g c = λ cfg past s.
    let old = c.args.self.now in
    let p = c.args.packet.now in
    let f = s.followed in
    let turns = turns_in cfg.program past in
    let latest = high_of (Some cfg.program) (p ∷ packets_in past) in
    let same : greatest_in turns ≡ latest = turns-high cfg.program past ∙ sym s.high in
    let n = quiet-behind old cfg p past f.judges f.notes f.news f.rest s.quiet f.body.sound s.high in
    let k = c.put_body.ensures.rest in
    on_ok_more c.put_body.result
    (λ put. record {
      judges = record {
        requests = subst (λ r. RequestsStandFor r cfg.index (Passed latest ∷ turns)) (sym k.requests) n.judges.requests;
        counted = subst (λ x. CountsAre x cfg.index (Passed latest ∷ turns)) (sym k.counts) n.judges.counted;
      };
      cue_pid = k.cue_pid ∙ f.body.cue_pid;
      notes = subst (λ r. NotesStandFor r cfg.index (Passed latest ∷ turns)) (sym k.requests) n.notes;
      news = k.has_news ∙ s.quiet;
      rest = λ quiet. subst (λ r. RestsAt r cfg.index (Passed latest ∷ turns)) (sym k.rest) n.rest;
      follower = subst (λ x. StartsStandFor x (writing_cues cfg) (p ∷ packets_in past)) (sym k.follower) f.body.follower;
      out = record {
        passed = onto f.out.passed (sent_at cfg p past);
        put = subst (HasPut c.put_body.new.self.out) (ap (onto f.out.passed) (sym (alone old cfg p past s))) put;
        cues = all-more cfg.cue_pid (sent_at cfg p past) f.out.passed (cued cfg past) f.out.cues;
        go_on = sent-go-on cfg p past f.out.passed f.out.go_on;
      };
      whole = k.is_spent ∙ f.whole;
    })
    (c.put_body.ensures.numbers f.out.passed cfg (packets_in past) f.out.put f.body)
