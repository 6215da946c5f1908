use Rattle.std.proofs.Common.{◌≡◌, ◌++◌, OnOk, IfErr, sym, ap, subst, ◌∙◌}
use Rattle.std.specs.Prelude.{option_map}
use Rattle.unit_stream.specs.declared.clock.Begun.{Begun}
use Rattle.ad_library.specs.Library.{held}
use Rattle.program_follower.specs.declared.start_follower.StartPlace.TheVariants as places
use Rattle.program_follower.specs.declared.starts.StartPacket.TheVariants.{NoStart}
use Rattle.program_follower.specs.Purposes.{reading_cues}
use Rattle.outgoing_packets.specs.Numbers.{FrontFails}
use Rattle.splice_plans.specs.Adverts.{setting_of}
use Rattle.splice_plans.specs.Stepping.{place_by, puts_next}
use Rattle.ts_packet.proofs.Cases.{on_ok_more}
use Rattle.splice_switch.specs.Standing.{IsFollowedAs, IsStart}
use Rattle.splice_switch.proofs.PlayLemmas.{plays-on, plays-after}
use Rattle.splice_switch.proofs.PremiseLemmas.{quiet-one, packet-quiet, own-stream, clean-more}
use Rattle.splice_switch.proofs.OutLemmas.{quiet-next, stream-goes-on}
use Rattle.splice_switch.proofs.switch.Switch.put_of_stream.Goals.{in-None, in-Some}
use Rattle.splice_switch.proofs.switch.Switch.put_of_stream.Goals as goal

pub returns-after-begun-clause-ok : goal.returns-after-begun-clause-ok
returns-after-begun-clause-ok g c = λ start ps cfg x h b.
    let past = x.read in
    let p = c.args.packet.now in
    let filed = held c.args.library.now in
    let k = setting_of cfg filed in
    let time : c.match-begun.time ≡ option_map (λ (x : Begun). x.pts) c.in-Start.begun
    = elim c.match-begun.branch [
      | in-None w ↦ w.time-is ∙ sym (ap (option_map (λ (x : Begun). x.pts)) w.in-None.is)
      | in-Some w ↦ w.time-is ∙ sym (ap (option_map (λ (x : Begun). x.pts)) w.in-Some.is)
    ] in
    let s : IsStart c.args.self.now c.args.stream c.match-begun.time cfg filed p x
    = record { begun = c.in-Start.begun; followed = subst (λ part. IsFollowedAs c.args.self.now (places.Stream c.args.stream part) cfg filed p x) c.in-Start.is b; time_is = time } in
    c.put_start.ensures.ok start ps cfg x h s

pub returns-after-begun-clause-stands : goal.returns-after-begun-clause-stands
returns-after-begun-clause-stands g c = λ cfg x b.
    let p = c.args.packet.now in
    let filed = held c.args.library.now in
    let k = setting_of cfg filed in
    let time : c.match-begun.time ≡ option_map (λ (x : Begun). x.pts) c.in-Start.begun
    = elim c.match-begun.branch [
      | in-None w ↦ w.time-is ∙ sym (ap (option_map (λ (x : Begun). x.pts)) w.in-None.is)
      | in-Some w ↦ w.time-is ∙ sym (ap (option_map (λ (x : Begun). x.pts)) w.in-Some.is)
    ] in
    let s : IsStart c.args.self.now c.args.stream c.match-begun.time cfg filed p x
    = record { begun = c.in-Start.begun; followed = subst (λ part. IsFollowedAs c.args.self.now (places.Stream c.args.stream part) cfg filed p x) c.in-Start.is b; time_is = time } in
    c.put_start.ensures.stands cfg x s

pub returns-after-begun-clause-turns : goal.returns-after-begun-clause-turns
returns-after-begun-clause-turns g c = λ cfg x b.
    let p = c.args.packet.now in
    let filed = held c.args.library.now in
    let k = setting_of cfg filed in
    let time : c.match-begun.time ≡ option_map (λ (x : Begun). x.pts) c.in-Start.begun
    = elim c.match-begun.branch [
      | in-None w ↦ w.time-is ∙ sym (ap (option_map (λ (x : Begun). x.pts)) w.in-None.is)
      | in-Some w ↦ w.time-is ∙ sym (ap (option_map (λ (x : Begun). x.pts)) w.in-Some.is)
    ] in
    let s : IsStart c.args.self.now c.args.stream c.match-begun.time cfg filed p x
    = record { begun = c.in-Start.begun; followed = subst (λ part. IsFollowedAs c.args.self.now (places.Stream c.args.stream part) cfg filed p x) c.in-Start.is b; time_is = time } in
    c.put_start.ensures.turns cfg x s

pub returns-after-begun-clause-err : goal.returns-after-begun-clause-err
returns-after-begun-clause-err g c = λ start ps cfg x h b.
    let past = x.read in
    let p = c.args.packet.now in
    let filed = held c.args.library.now in
    let k = setting_of cfg filed in
    let time : c.match-begun.time ≡ option_map (λ (x : Begun). x.pts) c.in-Start.begun
    = elim c.match-begun.branch [
      | in-None w ↦ w.time-is ∙ sym (ap (option_map (λ (x : Begun). x.pts)) w.in-None.is)
      | in-Some w ↦ w.time-is ∙ sym (ap (option_map (λ (x : Begun). x.pts)) w.in-Some.is)
    ] in
    let s : IsStart c.args.self.now c.args.stream c.match-begun.time cfg filed p x
    = record { begun = c.in-Start.begun; followed = subst (λ part. IsFollowedAs c.args.self.now (places.Stream c.args.stream part) cfg filed p x) c.in-Start.is b; time_is = time } in
    c.put_start.ensures.err start ps cfg x h s

pub returns-in-NoStart-clause-ok : goal.returns-in-NoStart-clause-ok
returns-in-NoStart-clause-ok g c = λ start ps cfg x h b.
    let past = x.read in
    let p = c.args.packet.now in
    let filed = held c.args.library.now in
    let k = setting_of cfg filed in
    let b' : IsFollowedAs c.args.self.now (places.Stream c.args.stream NoStart) cfg filed p x = subst (λ part. IsFollowedAs c.args.self.now (places.Stream c.args.stream part) cfg filed p x) c.in-NoStart.is b in
    let none = quiet-one cfg filed p past b'.clean c.args.stream b'.place_is in
    let own = own-stream cfg filed p past c.args.stream NoStart b'.place_is in
    let before = plays-on c.args.self.now.playing k p past b'.place_is.0 own none x.counted b'.playing in
    let packet = packet-quiet cfg filed p past b'.clean c.args.stream b'.place_is in
    let out : puts_next k x p ≡ place_by k x.counted p past = quiet-next k x p b'.place_is.1 none in
    subst (λ l. OnOk c.put_packet.result (g.S.PacketSink.holds c.put_packet.new.sink start (ps ++ l))) (sym out) (c.put_packet.ensures.ok start ps k past x.counted h before packet)

pub returns-in-NoStart-clause-stands : goal.returns-in-NoStart-clause-stands
returns-in-NoStart-clause-stands g c = λ cfg x b.
    let past = x.read in
    let p = c.args.packet.now in
    let filed = held c.args.library.now in
    let k = setting_of cfg filed in
    let b' : IsFollowedAs c.args.self.now (places.Stream c.args.stream NoStart) cfg filed p x = subst (λ part. IsFollowedAs c.args.self.now (places.Stream c.args.stream part) cfg filed p x) c.in-NoStart.is b in
    let none = quiet-one cfg filed p past b'.clean c.args.stream b'.place_is in
    let own = own-stream cfg filed p past c.args.stream NoStart b'.place_is in
    let before = plays-on c.args.self.now.playing k p past b'.place_is.0 own none x.counted b'.playing in
    let packet = packet-quiet cfg filed p past b'.clean c.args.stream b'.place_is in
    let out : puts_next k x p ≡ place_by k x.counted p past = quiet-next k x p b'.place_is.1 none in
    on_ok_more c.put_packet.result
    (λ behind. record {
      cue_pid = b'.cue_pid;
      follower = b'.follower;
      clean = clean-more (reading_cues cfg) p past b'.clean b'.sound;
      playing = plays-after c.put_packet.new.self k p past b'.place_is.0 own none x.counted behind;
      numbers = record {
        passed = b'.numbers.passed;
        put = b'.numbers.put;
        go_on = stream-goes-on cfg filed p x b'.clean b'.place_is.0 b'.place_is.1 own b'.numbers.passed b'.numbers.go_on;
      };
      whole = b'.whole;
    })
    (c.put_packet.ensures.plays k past x.counted before packet)

pub returns-in-NoStart-clause-err : goal.returns-in-NoStart-clause-err
returns-in-NoStart-clause-err g c = λ start ps cfg x h b.
    let past = x.read in
    let p = c.args.packet.now in
    let filed = held c.args.library.now in
    let k = setting_of cfg filed in
    let b' : IsFollowedAs c.args.self.now (places.Stream c.args.stream NoStart) cfg filed p x = subst (λ part. IsFollowedAs c.args.self.now (places.Stream c.args.stream part) cfg filed p x) c.in-NoStart.is b in
    let none = quiet-one cfg filed p past b'.clean c.args.stream b'.place_is in
    let own = own-stream cfg filed p past c.args.stream NoStart b'.place_is in
    let before = plays-on c.args.self.now.playing k p past b'.place_is.0 own none x.counted b'.playing in
    let packet = packet-quiet cfg filed p past b'.clean c.args.stream b'.place_is in
    let out : puts_next k x p ≡ place_by k x.counted p past = quiet-next k x p b'.place_is.1 none in
    subst (λ l. IfErr c.put_packet.result (λ f. FrontFails l (λ put q. g.S.PacketSink.fails c.put_packet.new.sink start (ps ++ put) q f))) (sym out) (c.put_packet.ensures.err start ps k past x.counted h before packet)
