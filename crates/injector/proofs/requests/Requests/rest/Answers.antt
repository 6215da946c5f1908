use Rattle.std.proofs.Common.{◌≡◌, ◌+◌, ◌<◌, ◌≤◌, ◌∷◌, [], ◌++◌, true, length, refl, sym, ap, subst, ◌∙◌, append_assoc, length-append, arith}
use Rattle.std.specs.Prelude.{All, option_map}
use Rattle.std.proofs.lemmas.List.{append-nil}
use Rattle.pes_time.specs.Line.{ring_of}
use Rattle.event_table.specs.Standing.{on_ring}
use Rattle.injector.specs.Turns.{greatest_in}
use Rattle.injector.specs.Senders.{Sender, is_none, chosen, standing_senders}
use Rattle.injector.specs.Noting.{Rests, Sending, ring_next, ring_earlier}
use Rattle.injector.proofs.SendingLemmas.{at_within, at_kept, seam-all, next-left, none-left, sending-first, sending-skip}
use Rattle.injector.proofs.BoundLemmas.{rests_none, rests-push}
use Rattle.injector.proofs.requests.Requests.rest.Goals as goal

pub loop-place-init : goal.loop-place-init
loop-place-init c = λ index past stands noted idle. ([], standing_senders index past, refl, refl, sending-first c.args.self.now index past (greatest_in past) stands noted, rests_none (greatest_in past))

pub loop-place-smaller : goal.loop-place-smaller
loop-place-smaller c =
    let n = c.count.ensures in
    let t = c.loop-place-test.true in
    omega arith

pub loop-place-preserved : goal.loop-place-preserved
loop-place-preserved c = λ index past stands noted idle.
    let s = c.loop-place.invariant index past stands noted idle in
    let latest = greatest_in past in
    let done = s.0 in
    let below : c.loop-place.place < length c.args.self.now.table.entries.items = subst (λ n. c.loop-place.place < n) c.count.ensures c.loop-place-test.true in
    let m = next-left c.args.self.now latest latest done s.1 c.loop-place.place s.4 s.3 below in
    let x = m.0 in
    let left = m.1 in
    let same : standing_senders index past ≡ done ++ x ∷ left = s.2 ∙ ap (λ l. done ++ l) m.2 in
    let sending : Sending c.args.self.now latest latest done (x ∷ left) = subst (Sending c.args.self.now latest latest done) m.2 s.4 in
    let quiet : is_none (chosen x latest latest) ≡ true
    = seam-all (λ (y : Sender). is_none (chosen y latest latest) ≡ true) done x left (subst (All (λ (y : Sender). is_none (chosen y latest latest) ≡ true)) same idle) in
    let next : c.next_at-next.result ≡ ring_next (on_ring x.event) (option_map ring_of x.last) (option_map ring_of latest) = c.next_at-next.ensures latest done x left sending s.3 in
    let rests = rests-push c.loop-place.rest latest done x (at_within c.args.self.now latest latest done x left sending) (at_kept c.args.self.now latest latest done x left sending) quiet s.5 in (
      done ++ x ∷ [],
      left,
      same ∙ sym (append_assoc done (x ∷ []) left),
      (let n : length (done ++ x ∷ []) ≡ length done + 1 = length-append done (x ∷ []) in ap (λ k. k + 1) s.3 ∙ sym n),
      sending-skip c.args.self.now latest latest done x left sending quiet,
      subst (λ q. Rests q latest (done ++ x ∷ [])) (sym (c.earlier-rest.ensures ∙ ap (ring_earlier c.loop-place.rest) next)) rests,
    )

pub returns : goal.returns
returns c = λ index past stands noted idle.
    let s = c.loop-place.invariant index past stands noted idle in
    let over : length c.args.self.now.table.entries.items ≤ c.loop-place.place = subst (λ n. n ≤ c.loop-place.place) c.count.ensures c.loop-place-test.false in
    let none = none-left c.args.self.now (greatest_in past) (greatest_in past) s.0 s.1 c.loop-place.place s.4 s.3 over in
    let all : standing_senders index past ≡ s.0 = s.2 ∙ ap (λ l. s.0 ++ l) none ∙ append-nil s.0 in
    subst (Rests c.loop-place.rest (greatest_in past)) (sym all) s.5
