use Rattle.std.proofs.Common.{◌<◌, ◌%◌, ◌++◌, ◌∷◌, length, false, refl, rules, sym, subst, ◌∙◌}
use Rattle.std.specs.Prelude.{OnOk}
use Rattle.std.proofs.lemmas.Bool.{true≢false}
use Rattle.std.proofs.lemmas.List.{append-nil}
use Rattle.std.proofs.lemmas.Result.{on_ok_weaker, IfErr-weaker}
use Rattle.ts_packet.specs.Numbering.{Kept}
use Rattle.splice_plans.specs.Counting.{steps_behind}
use Rattle.splice_plans.specs.Switching.{switched_at}
use Rattle.splice_plans.specs.Known.{behind_at}
use Rattle.splice_playing.proofs.LeavingLemmas.{own-taken, put-taken, some-unit}
use Rattle.splice_playing.proofs.PlaceLemmas.{once-of, low-of, steps-of, stream-was, all-behind, kept-place, kept-count, left, kept, inside-begun, one-fails}
use Rattle.splice_playing.proofs.playing.Playing.put_packet.Goals as goal

pub returns-then-of-clause-ok : goal.returns-then-of-clause-ok
returns-then-of-clause-ok g c = λ start ps k past counted h b i.
    let streams = c.args.self.now.streams in
    let units = c.args.self.now.leaving in
    let below : c.args.stream % 8 < length streams = search rules in
    let n = c.args.stream in
    let p = c.args.packet.now in
    let behind = behind_at k past in
    let was = stream-was k n p past i.pid i.of i.separate i.on_pid i.cue counted streams c.index-self-stream.result below b.streams in
    let steps = steps-of k n p past i.pid i.of i.separate i.on_pid i.cue counted in
    let low = low-of k n p past i.pid i.of i.separate i.on_pid i.cue counted in
    let inside = sym was.leaving ∙ c.if-of.true in
    let begun = inside-begun k p past i.pid inside in
    let l = left k n p past i.pid i.of i.separate i.on_pid i.cue counted c.is_repeat_in-is_repeat.result inside (λ y. c.is_repeat_in-is_repeat.ensures.answer some-unit i.pid behind y i.start
    (own-taken (switched_at k past) n i.pid p behind low i.of units streams c.index-self-stream.result some-unit below b.leaving c.if-of.true c.args.is_start i.start begun)) in
    subst (λ qs. OnOk c.leave-put.result (g.S.PacketSink.holds c.leave-put.new.sink start (ps ++ qs))) (sym l.place) (c.leave-put.ensures.ok start ps steps h was.counter)

pub returns-then-of-clause-plays : goal.returns-then-of-clause-plays
returns-then-of-clause-plays g c = λ k past counted b i.
    let streams = c.args.self.now.streams in
    let units = c.args.self.now.leaving in
    let below : c.args.stream % 8 < length streams = search rules in
    let n = c.args.stream in
    let p = c.args.packet.now in
    let behind = behind_at k past in
    let was = stream-was k n p past i.pid i.of i.separate i.on_pid i.cue counted streams c.index-self-stream.result below b.streams in
    let steps = steps-of k n p past i.pid i.of i.separate i.on_pid i.cue counted in
    let low = low-of k n p past i.pid i.of i.separate i.on_pid i.cue counted in
    let inside = sym was.leaving ∙ c.if-of.true in
    let begun = inside-begun k p past i.pid inside in
    let l = left k n p past i.pid i.of i.separate i.on_pid i.cue counted c.is_repeat_in-is_repeat.result inside (λ y. c.is_repeat_in-is_repeat.ensures.answer some-unit i.pid behind y i.start
    (own-taken (switched_at k past) n i.pid p behind low i.of units streams c.index-self-stream.result some-unit below b.leaving c.if-of.true c.args.is_start i.start begun)) in
    let once = once-of k n p past i.pid i.of i.separate i.on_pid i.cue counted in
    on_ok_weaker c.leave-put.result (λ _. record {
      events = b.events;
      plans = b.plans;
      streams = all-behind k n p past i.pid i.of i.separate i.on_pid i.cue counted l.gone (steps_behind c.is_repeat_in-is_repeat.result p steps) l.is l.count streams c.leave-put.new.self below
          (c.leave-put.ensures.counts steps was.counter) (c.leave-put.ensures.leaving ∙ was.leaving) b.streams;
      leaving = put-taken (switched_at k past) n i.pid p behind low i.of units c.is_repeat_in-is_repeat.new.units streams c.leave-put.new.self below once i.on_pid c.is_repeat_in-is_repeat.ensures.others
          (λ leaves begun u. c.is_repeat_in-is_repeat.ensures.takes u i.pid behind i.on_pid i.start
          (own-taken (switched_at k past) n i.pid p behind low i.of units streams c.index-self-stream.result u below b.leaving c.if-of.true c.args.is_start i.start begun))
          b.leaving;
      forgotten = b.forgotten;
      all_out = b.all_out;
    }) c.leave-put.ensures.well

pub returns-then-of-clause-err : goal.returns-then-of-clause-err
returns-then-of-clause-err g c = λ start ps k past counted h b i.
    let streams = c.args.self.now.streams in
    let units = c.args.self.now.leaving in
    let below : c.args.stream % 8 < length streams = search rules in
    let n = c.args.stream in
    let p = c.args.packet.now in
    let behind = behind_at k past in
    let was = stream-was k n p past i.pid i.of i.separate i.on_pid i.cue counted streams c.index-self-stream.result below b.streams in
    let steps = steps-of k n p past i.pid i.of i.separate i.on_pid i.cue counted in
    let low = low-of k n p past i.pid i.of i.separate i.on_pid i.cue counted in
    let inside = sym was.leaving ∙ c.if-of.true in
    let begun = inside-begun k p past i.pid inside in
    let l = left k n p past i.pid i.of i.separate i.on_pid i.cue counted c.is_repeat_in-is_repeat.result inside (λ y. c.is_repeat_in-is_repeat.ensures.answer some-unit i.pid behind y i.start
    (own-taken (switched_at k past) n i.pid p behind low i.of units streams c.index-self-stream.result some-unit below b.leaving c.if-of.true c.args.is_start i.start begun)) in
    IfErr-weaker c.leave-put.result _ _ (λ f x. one-fails (λ put q. g.S.PacketSink.fails c.leave-put.new.sink start (ps ++ put) q f) _ x.0 (l.place ∙ x.1) (rw (append-nil ps) x.2))
    (c.leave-put.ensures.err start ps steps h was.counter)

pub returns-clause-ok : goal.returns-clause-ok
returns-clause-ok g c = λ start ps k past counted h b i.
    let streams = c.args.self.now.streams in
    let units = c.args.self.now.leaving in
    let below : c.args.stream % 8 < length streams = search rules in
    let n = c.args.stream in
    let p = c.args.packet.now in
    let behind = behind_at k past in
    let was = stream-was k n p past i.pid i.of i.separate i.on_pid i.cue counted streams c.index-self-stream.result below b.streams in
    let steps = steps-of k n p past i.pid i.of i.separate i.on_pid i.cue counted in
    let low = low-of k n p past i.pid i.of i.separate i.on_pid i.cue counted in
    let gone = kept k n p past i.pid i.of i.separate i.on_pid i.cue counted (sym was.leaving ∙ c.if-of.false) in
    subst (λ qs. OnOk c.keep-put.result (g.S.PacketSink.holds c.keep-put.new.sink start (ps ++ qs))) (sym (kept-place k n p past i.pid i.of i.separate i.on_pid i.cue counted gone))
    (c.keep-put.ensures.ok start ps steps h was.counter)

pub returns-clause-plays : goal.returns-clause-plays
returns-clause-plays g c = λ k past counted b i.
    let streams = c.args.self.now.streams in
    let units = c.args.self.now.leaving in
    let below : c.args.stream % 8 < length streams = search rules in
    let n = c.args.stream in
    let p = c.args.packet.now in
    let behind = behind_at k past in
    let was = stream-was k n p past i.pid i.of i.separate i.on_pid i.cue counted streams c.index-self-stream.result below b.streams in
    let steps = steps-of k n p past i.pid i.of i.separate i.on_pid i.cue counted in
    let low = low-of k n p past i.pid i.of i.separate i.on_pid i.cue counted in
    let gone = kept k n p past i.pid i.of i.separate i.on_pid i.cue counted (sym was.leaving ∙ c.if-of.false) in
    let once = once-of k n p past i.pid i.of i.separate i.on_pid i.cue counted in
    on_ok_weaker c.keep-put.result (λ _. record {
      events = b.events;
      plans = b.plans;
      streams = all-behind k n p past i.pid i.of i.separate i.on_pid i.cue counted false (Kept p ∷ steps) gone (kept-count k n p past i.pid i.of i.separate i.on_pid i.cue counted) streams c.keep-put.new.self below
          (c.keep-put.ensures.counts steps was.counter) (c.keep-put.ensures.leaving ∙ was.leaving) b.streams;
      leaving = put-taken (switched_at k past) n i.pid p behind low i.of units units streams c.keep-put.new.self below once i.on_pid (λ i u other. refl)
          (λ leaves begun u. absurd (true≢false (sym leaves ∙ c.keep-put.ensures.leaving ∙ c.if-of.false))) b.leaving;
      forgotten = b.forgotten;
      all_out = b.all_out;
    }) c.keep-put.ensures.well

pub returns-clause-err : goal.returns-clause-err
returns-clause-err g c = λ start ps k past counted h b i.
    let streams = c.args.self.now.streams in
    let units = c.args.self.now.leaving in
    let below : c.args.stream % 8 < length streams = search rules in
    let n = c.args.stream in
    let p = c.args.packet.now in
    let behind = behind_at k past in
    let was = stream-was k n p past i.pid i.of i.separate i.on_pid i.cue counted streams c.index-self-stream.result below b.streams in
    let steps = steps-of k n p past i.pid i.of i.separate i.on_pid i.cue counted in
    let low = low-of k n p past i.pid i.of i.separate i.on_pid i.cue counted in
    let gone = kept k n p past i.pid i.of i.separate i.on_pid i.cue counted (sym was.leaving ∙ c.if-of.false) in
    IfErr-weaker c.keep-put.result _ _ (λ f x. one-fails (λ put q. g.S.PacketSink.fails c.keep-put.new.sink start (ps ++ put) q f) _ _ (kept-place k n p past i.pid i.of i.separate i.on_pid i.cue counted gone) (rw (append-nil ps) x))
    (c.keep-put.ensures.err start ps steps h was.counter)
