use Rattle.std.proofs.Common.{◌≡◌, [], ◌∷◌, ◌++◌, refl, sym, ap, subst, ◌∙◌, append_assoc}
use Rattle.std.specs.Prelude.{option_map, Some}
use Rattle.std.proofs.lemmas.List.{append-nil}
use Rattle.pes_time.specs.Line.{ring_of}
use Rattle.ts_packet.specs.Runs.{onto}
use Rattle.ts_packet.proofs.RunLemmas.{onto-append}
use Rattle.program_laws.specs.Writing.{packets_out}
use Rattle.outgoing_packets.specs.Numbers.{HasPut}
use Rattle.outgoing_packets.proofs.NumberLemmas.{fails-behind}
use Rattle.injector.specs.Turns.{greatest_in, Passed}
use Rattle.injector.specs.Senders.{standing_senders}
use Rattle.injector.specs.Noting.{Rests, IsBefore, NotesStandFor}
use Rattle.unit_stream.specs.Clocks.{Rises}
use Rattle.injector.specs.Requests.{RequestsStandFor}
use Rattle.injector.specs.Steps.{Packet as PacketStep, packets_in, turns_in, cued, body_at, sent_at}
use Rattle.outgoing_packets.proofs.GoOnLemmas.{all-more}
use Rattle.injector.proofs.FeedLemmas.{rises-at, turns-high}
use Rattle.injector.proofs.GoOnLemmas.{sent-behind, sent-go-on}
use Rattle.injector.proofs.RestLemmas.{idle-between}
use Rattle.injector.proofs.injector.Injector.put.Goals as goal
use Rattle.program_follower.specs.Purposes.{writing_cues}
use Rattle.program_follower.specs.Following.{high_of}

pub returns-in-Err-clause-err : goal.returns-in-Err-clause-err
returns-in-Err-clause-err g c = λ start ps cfg past held b.
    let p = c.args.packet.now in
    let turns = turns_in cfg.program past in
    let latest = high_of (Some cfg.program) (p ∷ packets_in past) in
    let is : c.high-later.result ≡ option_map ring_of latest = c.high-later.ensures (writing_cues cfg) (p ∷ packets_in past) b.body.follower in
    let rises : Rises (greatest_in turns) latest = subst (λ h. Rises h latest) (sym (turns-high cfg.program past)) (rises-at cfg p (packets_in past) b.body.sound) in
    let before : IsBefore c.is_due-is_due.result c.args.self.now.requests c.high-later.result cfg.index turns latest
    = record { stands = b.judges.requests; notes = b.notes; rises = rises; time = is; idle = λ none. (c.is_due-is_due.ensures.stays c.args.is_map cfg p past b is none).idle } in
    let out = b.out.passed in
    let cues = packets_out c.args.self.now.cue_pid out (Rattle.injector.specs.Steps.sections_before cfg p past) in
    let more = body_at cfg p (packets_in past) (onto out cues) in
    let sent : sent_at cfg p past ≡ cues ++ more = sent-behind cfg p past c.args.self.now.cue_pid out b.body.cue_pid b.out.cues b.out.go_on in
    fails-behind (sent_at cfg p past) [] cues more
    (λ put q. g.S.PacketSink.fails c.put_due.new.sink start (ps ++ put) q c.in-Err.fault) (λ put q. g.S.PacketSink.fails c.put_due.new.sink start (ps ++ put) q c.in-Err.fault)
    sent (λ put q f. f)
    (c.in-Err.ensures.err start ps out cfg.index turns latest held b.out.put before)

pub returns-in-Err-put_body-clause-err : goal.returns-in-Err-put_body-clause-err
returns-in-Err-put_body-clause-err g c = λ start ps cfg past held b.
    let p = c.args.packet.now in
    let turns = turns_in cfg.program past in
    let latest = high_of (Some cfg.program) (p ∷ packets_in past) in
    let is : c.high-later.result ≡ option_map ring_of latest = c.high-later.ensures (writing_cues cfg) (p ∷ packets_in past) b.body.follower in
    let rises : Rises (greatest_in turns) latest = subst (λ h. Rises h latest) (sym (turns-high cfg.program past)) (rises-at cfg p (packets_in past) b.body.sound) in
    let before : IsBefore c.is_due-is_due.result c.args.self.now.requests c.high-later.result cfg.index turns latest
    = record { stands = b.judges.requests; notes = b.notes; rises = rises; time = is; idle = λ none. (c.is_due-is_due.ensures.stays c.args.is_map cfg p past b is none).idle } in
    let out = b.out.passed in
    let cues = packets_out c.args.self.now.cue_pid out (Rattle.injector.specs.Steps.sections_before cfg p past) in
    let more = body_at cfg p (packets_in past) (onto out cues) in
    let sent : sent_at cfg p past ≡ cues ++ more = sent-behind cfg p past c.args.self.now.cue_pid out b.body.cue_pid b.out.cues b.out.go_on in
    fails-behind (sent_at cfg p past) cues more []
    (λ put q. g.S.PacketSink.fails c.put_body.new.sink start ((ps ++ cues) ++ put) q c.in-Err-put_body.fault) (λ put q. g.S.PacketSink.fails c.put_body.new.sink start (ps ++ put) q c.in-Err-put_body.fault)
    (sent ∙ ap (λ l. cues ++ l) (sym (append-nil more))) (λ put q f. subst (λ l. g.S.PacketSink.fails c.put_body.new.sink start l q c.in-Err-put_body.fault) (append_assoc ps cues put) f)
    (c.in-Err-put_body.ensures.err start (ps ++ cues) (onto out cues) cfg (packets_in past)
    (c.in-Ok.ensures.ok start ps out cfg.index turns latest held b.out.put before)
    (c.in-Ok.ensures.numbers out cfg.index turns latest b.out.put before) (record { cue_pid = b.body.cue_pid; follower = b.body.follower; shows = b.body.shows; sound = b.body.sound; map = b.body.map }))

pub returns-clause-ok : goal.returns-clause-ok
returns-clause-ok g c = λ start ps cfg past held b.
    let p = c.args.packet.now in
    let turns = turns_in cfg.program past in
    let latest = high_of (Some cfg.program) (p ∷ packets_in past) in
    let is : c.high-later.result ≡ option_map ring_of latest = c.high-later.ensures (writing_cues cfg) (p ∷ packets_in past) b.body.follower in
    let rises : Rises (greatest_in turns) latest = subst (λ h. Rises h latest) (sym (turns-high cfg.program past)) (rises-at cfg p (packets_in past) b.body.sound) in
    let before : IsBefore c.is_due-is_due.result c.args.self.now.requests c.high-later.result cfg.index turns latest
    = record { stands = b.judges.requests; notes = b.notes; rises = rises; time = is; idle = λ none. (c.is_due-is_due.ensures.stays c.args.is_map cfg p past b is none).idle } in
    let out = b.out.passed in
    let cues = packets_out c.args.self.now.cue_pid out (Rattle.injector.specs.Steps.sections_before cfg p past) in
    let more = body_at cfg p (packets_in past) (onto out cues) in
    let sent : sent_at cfg p past ≡ cues ++ more = sent-behind cfg p past c.args.self.now.cue_pid out b.body.cue_pid b.out.cues b.out.go_on in
    subst (g.S.PacketSink.holds c.put_body.new.sink start) (append_assoc ps cues more ∙ ap (λ l. ps ++ l) (sym sent))
    (c.in-Ok-put_body.ensures.ok start (ps ++ cues) (onto out cues) cfg (packets_in past)
    (c.in-Ok.ensures.ok start ps out cfg.index turns latest held b.out.put before)
    (c.in-Ok.ensures.numbers out cfg.index turns latest b.out.put before) (record { cue_pid = b.body.cue_pid; follower = b.body.follower; shows = b.body.shows; sound = b.body.sound; map = b.body.map }))

pub returns-clause-stands : goal.returns-clause-stands
returns-clause-stands g c = λ cfg past b.
    let p = c.args.packet.now in
    let turns = turns_in cfg.program past in
    let latest = high_of (Some cfg.program) (p ∷ packets_in past) in
    let is : c.high-later.result ≡ option_map ring_of latest = c.high-later.ensures (writing_cues cfg) (p ∷ packets_in past) b.body.follower in
    let rises : Rises (greatest_in turns) latest = subst (λ h. Rises h latest) (sym (turns-high cfg.program past)) (rises-at cfg p (packets_in past) b.body.sound) in
    let before : IsBefore c.is_due-is_due.result c.args.self.now.requests c.high-later.result cfg.index turns latest
    = record { stands = b.judges.requests; notes = b.notes; rises = rises; time = is; idle = λ none. (c.is_due-is_due.ensures.stays c.args.is_map cfg p past b is none).idle } in
    let out = b.out.passed in
    let cues = packets_out c.args.self.now.cue_pid out (Rattle.injector.specs.Steps.sections_before cfg p past) in
    let more = body_at cfg p (packets_in past) (onto out cues) in
    let sent : sent_at cfg p past ≡ cues ++ more = sent-behind cfg p past c.args.self.now.cue_pid out b.body.cue_pid b.out.cues b.out.go_on in
    let k = c.put_body.ensures.rest in
    let due = c.put_due.ensures.stands cfg.index turns b.judges.requests in
    let told = c.in-Ok.ensures.told out cfg.index turns latest b.out.put before in
    let requests : RequestsStandFor c.put_body.new.self.requests cfg.index turns = subst (λ r. RequestsStandFor r cfg.index turns) (sym k.requests) due in
    let n = subst (λ n. Rattle.injector.specs.Injecting.CountsAre n cfg.index turns) (sym k.counts) b.judges.counted in
    let noted = subst (λ r. Rattle.injector.specs.Noting.NotesTold r cfg.index turns latest) (sym k.requests) told in
    let m = c.note_rest.ensures.kept in
    let risen = c.rise.ensures.stands cfg.index turns latest requests rises is in
    let notes = c.rise.ensures.notes cfg.index turns latest requests noted rises is in
    record {
      judges = record {
        requests = subst (λ r. RequestsStandFor r cfg.index (Passed latest ∷ turns)) (sym m.requests) risen;
        counted = subst (λ x. Rattle.injector.specs.Injecting.CountsAre x cfg.index (Passed latest ∷ turns)) (sym m.counts)
            (record { messages = n.messages; accepted = n.accepted; refused = n.refused });
      };
      cue_pid = m.cue_pid ∙ k.cue_pid ∙ b.body.cue_pid;
      notes = subst (λ r. NotesStandFor r cfg.index (Passed latest ∷ turns)) (sym m.requests) notes;
      news = c.note_rest.ensures.news (λ none. k.has_news ∙ c.is_due-is_due.ensures.news none);
      rest = λ quiet. c.note_rest.ensures.rest cfg.index (Passed latest ∷ turns) risen notes
          (idle-between cfg (PacketStep p ∷ past) latest refl refl)
          (λ none. subst (λ r. Rests r latest (standing_senders cfg.index (Passed latest ∷ turns))) (sym k.rest) (c.is_due-is_due.ensures.stays c.args.is_map cfg p past b is none).rests);
      follower = subst (λ f. Rattle.program_follower.specs.Following.StartsStandFor f (writing_cues cfg) (p ∷ packets_in past)) (sym k.follower ∙ sym m.follower) b.body.follower;
      out = record {
        passed = onto out (sent_at cfg p past);
        put = subst (λ o. HasPut o (onto out (sent_at cfg p past))) (sym m.out)
            (subst (HasPut c.put_body.new.self.out) (sym (onto-append out cues more) ∙ ap (onto out) (sym sent))
            (c.in-Ok-put_body.ensures.numbers (onto out cues) cfg (packets_in past) (c.in-Ok.ensures.numbers out cfg.index turns latest b.out.put before)
            (record { cue_pid = b.body.cue_pid; follower = b.body.follower; shows = b.body.shows; sound = b.body.sound; map = b.body.map })));
        cues = all-more cfg.cue_pid (sent_at cfg p past) out (cued cfg past) b.out.cues;
        go_on = sent-go-on cfg p past out b.out.go_on;
      };
      whole = m.is_spent ∙ k.is_spent ∙ b.whole;
    }
