use Rattle.std.proofs.Common.{◌≡◌, ◌∷◌, ◌++◌, [], sym, ap, subst, ◌∙◌, append_assoc, arith}
use Rattle.std.proofs.lemmas.List.{append-nil}
use Rattle.ad_library.specs.Library.{held}
use Rattle.program_follower.specs.declared.starts.StartPacket.TheVariants.{Start}
use Rattle.program_follower.specs.Purposes.{reading_cues}
use Rattle.outgoing_packets.proofs.NumberLemmas.{fails-behind}
use Rattle.splice_plans.specs.Adverts.{setting_of}
use Rattle.splice_plans.specs.Stepping.{front_by, place_by, puts_next}
use Rattle.splice_switch.proofs.PremiseLemmas.{begins-in, packet-start, within-streams, own-stream, clean-more}
use Rattle.splice_switch.proofs.OutLemmas.{stream-next, stream-goes-on}
use Rattle.splice_playing.proofs.CourseLemmas.{counts-trans}
use Rattle.splice_switch.proofs.switch.Switch.put_start.Goals as goal

pub returns-then-stream-streams-clause-ok : goal.returns-then-stream-streams-clause-ok
returns-then-stream-streams-clause-ok g c = λ start ps cfg x h b.
    let past = x.read in
    let f = b.followed in
    let p = c.args.packet.now in
    let filed = held c.args.library.now in
    let k = setting_of cfg filed in
    let listed = c.streams-streams.ensures (reading_cues cfg) (p ∷ past) f.follower in
    let within = within-streams cfg filed p past c.args.stream (Start b.begun) f.place_is c.streams-streams.result.now listed in
    let over = c.if-stream-streams.true in
    absurd (omega (arith, within, over))

pub returns-then-stream-streams-clause-stands : goal.returns-then-stream-streams-clause-stands
returns-then-stream-streams-clause-stands g c = λ cfg x b.
    let past = x.read in
    let f = b.followed in
    let p = c.args.packet.now in
    let filed = held c.args.library.now in
    let k = setting_of cfg filed in
    let listed = c.streams-streams.ensures (reading_cues cfg) (p ∷ past) f.follower in
    let within = within-streams cfg filed p past c.args.stream (Start b.begun) f.place_is c.streams-streams.result.now listed in
    let over = c.if-stream-streams.true in
    absurd (omega (arith, within, over))

pub returns-in-Err-clause-err : goal.returns-in-Err-clause-err
returns-in-Err-clause-err g c = λ start ps cfg x h b.
    let past = x.read in
    let f = b.followed in
    let p = c.args.packet.now in
    let filed = held c.args.library.now in
    let k = setting_of cfg filed in
    let listed = c.streams-streams.ensures (reading_cues cfg) (p ∷ past) f.follower in
    let begins = begins-in cfg filed p past c.args.stream b.begun c.args.time.now c.high-high.result c.streams-streams.result.now f.clean f.sound f.place_is b.time_is
    (c.high-high.ensures (reading_cues cfg) (p ∷ past) f.follower) listed in
    let packet = packet-start cfg filed p past f.clean c.args.stream b.begun f.place_is in
    let front = front_by k x.counted p past in
    let place = place_by k x.counted p past in
    let out : puts_next k x p ≡ front ++ place = stream-next k x p f.place_is.1 in
    fails-behind (puts_next k x p) [] front place
    (λ put q. g.S.PacketSink.fails c.begin_with_same.new.sink start (ps ++ put) q c.in-Err.fault) (λ put q. g.S.PacketSink.fails c.begin_with_same.new.sink start (ps ++ put) q c.in-Err.fault)
    out (λ put q y. y) (c.in-Err.ensures.err start ps k p past x.counted h f.playing begins)

pub returns-in-Err-put_packet-clause-err : goal.returns-in-Err-put_packet-clause-err
returns-in-Err-put_packet-clause-err g c = λ start ps cfg x h b.
    let past = x.read in
    let f = b.followed in
    let p = c.args.packet.now in
    let filed = held c.args.library.now in
    let k = setting_of cfg filed in
    let listed = c.streams-streams.ensures (reading_cues cfg) (p ∷ past) f.follower in
    let begins = begins-in cfg filed p past c.args.stream b.begun c.args.time.now c.high-high.result c.streams-streams.result.now f.clean f.sound f.place_is b.time_is
    (c.high-high.ensures (reading_cues cfg) (p ∷ past) f.follower) listed in
    let packet = packet-start cfg filed p past f.clean c.args.stream b.begun f.place_is in
    let front = front_by k x.counted p past in
    let place = place_by k x.counted p past in
    let out : puts_next k x p ≡ front ++ place = stream-next k x p f.place_is.1 in
    fails-behind (puts_next k x p) front place []
    (λ put q. g.S.PacketSink.fails c.put_packet.new.sink start ((ps ++ front) ++ put) q c.in-Err-put_packet.fault) (λ put q. g.S.PacketSink.fails c.put_packet.new.sink start (ps ++ put) q c.in-Err-put_packet.fault)
    (out ∙ ap (λ l. front ++ l) (sym (append-nil place))) (λ put q y. subst (λ l. g.S.PacketSink.fails c.put_packet.new.sink start l q c.in-Err-put_packet.fault) (append_assoc ps front put) y)
    (c.in-Err-put_packet.ensures.err start (ps ++ front) k past x.counted (c.in-Ok.ensures.ok start ps k p past x.counted h f.playing begins) (c.in-Ok.ensures.plays k p past x.counted f.playing begins) packet)

pub returns-clause-ok : goal.returns-clause-ok
returns-clause-ok g c = λ start ps cfg x h b.
    let past = x.read in
    let f = b.followed in
    let p = c.args.packet.now in
    let filed = held c.args.library.now in
    let k = setting_of cfg filed in
    let listed = c.streams-streams.ensures (reading_cues cfg) (p ∷ past) f.follower in
    let begins = begins-in cfg filed p past c.args.stream b.begun c.args.time.now c.high-high.result c.streams-streams.result.now f.clean f.sound f.place_is b.time_is
    (c.high-high.ensures (reading_cues cfg) (p ∷ past) f.follower) listed in
    let packet = packet-start cfg filed p past f.clean c.args.stream b.begun f.place_is in
    let front = front_by k x.counted p past in
    let place = place_by k x.counted p past in
    let out : puts_next k x p ≡ front ++ place = stream-next k x p f.place_is.1 in
    subst (g.S.PacketSink.holds c.put_packet.new.sink start) (append_assoc ps front place ∙ ap (λ l. ps ++ l) (sym out))
    (c.in-Ok-put_packet.ensures.ok start (ps ++ front) k past x.counted (c.in-Ok.ensures.ok start ps k p past x.counted h f.playing begins) (c.in-Ok.ensures.plays k p past x.counted f.playing begins) packet)

pub returns-clause-stands : goal.returns-clause-stands
returns-clause-stands g c = λ cfg x b.
    let past = x.read in
    let f = b.followed in
    let p = c.args.packet.now in
    let filed = held c.args.library.now in
    let k = setting_of cfg filed in
    let listed = c.streams-streams.ensures (reading_cues cfg) (p ∷ past) f.follower in
    let begins = begins-in cfg filed p past c.args.stream b.begun c.args.time.now c.high-high.result c.streams-streams.result.now f.clean f.sound f.place_is b.time_is
    (c.high-high.ensures (reading_cues cfg) (p ∷ past) f.follower) listed in
    let packet = packet-start cfg filed p past f.clean c.args.stream b.begun f.place_is in
    let front = front_by k x.counted p past in
    let place = place_by k x.counted p past in
    let out : puts_next k x p ≡ front ++ place = stream-next k x p f.place_is.1 in
    record {
      cue_pid = f.cue_pid;
      follower = f.follower;
      clean = clean-more (reading_cues cfg) p past f.clean f.sound;
      playing = c.advance.ensures.plays k c.args.stream c.args.time.now p past x.counted (c.in-Ok-put_packet.ensures.plays k past x.counted (c.in-Ok.ensures.plays k p past x.counted f.playing begins) packet) begins;
      numbers = record {
        passed = f.numbers.passed;
        put = f.numbers.put;
        go_on = stream-goes-on cfg filed p x f.clean f.place_is.0 f.place_is.1 (own-stream cfg filed p past c.args.stream (Start b.begun) f.place_is) f.numbers.passed f.numbers.go_on;
      };
      whole = f.whole;
    }

pub returns-clause-turns : goal.returns-clause-turns
returns-clause-turns g c = λ cfg x b.
    let past = x.read in
    let f = b.followed in
    let p = c.args.packet.now in
    let filed = held c.args.library.now in
    let k = setting_of cfg filed in
    let listed = c.streams-streams.ensures (reading_cues cfg) (p ∷ past) f.follower in
    let begins = begins-in cfg filed p past c.args.stream b.begun c.args.time.now c.high-high.result c.streams-streams.result.now f.clean f.sound f.place_is b.time_is
    (c.high-high.ensures (reading_cues cfg) (p ∷ past) f.follower) listed in
    counts-trans c.args.self.now.playing c.put_packet.new.self c.advance.new.self
    (counts-trans c.args.self.now.playing c.begin_with_same.new.self c.put_packet.new.self (c.in-Ok.ensures.turns k p past x.counted f.playing begins) c.put_packet.ensures.turns)
    c.advance.ensures.turns
