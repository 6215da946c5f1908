use Rattle.std.proofs.Common.{◌≡◌, ◌≤◌, refl, sym, length, take}
use Rattle.as_session.specs.Feeding.{message, feed_of}
use Rattle.as_session.specs.Session.{state_of}
use Rattle.as_session.proofs.FeedLemmas.{gives_whole, used_within}
use Rattle.as_session.proofs.session.Session.feed.Goals as goal

pub returns-in-Message : goal.returns-in-Message
returns-in-Message g c =
    let state = state_of c.args.self.now in
    let piece = c.args.piece.now in
    let held = rw c.in-Message.is at c.step-used.ensures.room in
    let gave = rw c.in-Message.is at c.step-used.ensures.given in
    let gives : message (take c.in-Message.size c.deref.result.now) ≡ (feed_of state piece).gives = rw c.deref.ensures.value gave in
    let within : c.step-used.result.0 ≤ length piece = rw c.step-used.ensures.used (used_within state piece) in
    let whole = gives_whole state piece (take c.in-Message.size c.deref.result.now) (sym gives) in
    ((refl, λ x. tt, c.step-used.ensures.after), record { used = c.step-used.ensures.used; gives = gives; within = within; whole = (held.1, whole); after = tt })
