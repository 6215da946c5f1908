use Rattle.std.proofs.Common.{◌≡◌, ap, sym, ◌∙◌, not, refl}
use Rattle.ts_packet.specs.Duplicates.{repeats}
use Rattle.ts_packet.proofs.HistoryLemmas.{walk_is_last}
use Rattle.ts_packet.proofs.follower.Follower.take.Goals as goal

pub returns-clause-follows : goal.returns-clause-follows
returns-clause-follows c = λ pid past h y.
    let p = c.args.packet.now in
    let r : c.is_repeated-is_repeat.result ≡ repeats pid p past = c.is_repeated-is_repeat.ensures pid past h ∙ sym (walk_is_last pid p past) in
    record { same = h.same; last = simp y (c.counter.ensures.value, r, λ q. refl) }

pub returns-clause-answer : goal.returns-clause-answer
returns-clause-answer c = λ pid past h y.
    let p = c.args.packet.now in
    let r : c.is_repeated-is_repeat.result ≡ repeats pid p past = c.is_repeated-is_repeat.ensures pid past h ∙ sym (walk_is_last pid p past) in
    simp y (ap not r)
