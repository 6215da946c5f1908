use Rattle.std.proofs.Common.{◌≤◌, length, ap, sym, ◌∙◌, arith, rules}
use Rattle.std.proofs.lemmas.List.{drop_all}
use Rattle.as_session.proofs.FrameLemmas.{partial_none}
use Rattle.as_session.proofs.FeedLemmas.{uses_some}
use Rattle.as_session.proofs.session.Session.step.Goals as goal

pub invariant_of-self-in-Whole : goal.invariant_of-self-in-Whole
invariant_of-self-in-Whole g c =
    let gathered = rw c.in-Whole.is at c.gather-used.ensures.gathers in
    let long = c.args.self.now.long in
    let room = c.deref_mut.ensures.len in
    let count = c.read_into-size.ensures.count in
    let all : length c.gather-used.new.ring.items ≤ c.read_into-size.result = omega arith in
    let left = ap (λ b. b.items) c.read_into-size.ensures.items in
    record { long = search rules; roomy = search rules; partial = partial_none _ (left ∙ drop_all _ _ all) }

pub invariant_of-self-in-BadSize : goal.invariant_of-self-in-BadSize
invariant_of-self-in-BadSize g c = record { long = search rules; roomy = search rules; partial = partial_none _ (search rules) }

pub returns-in-Whole-clause-room : goal.returns-in-Whole-clause-room
returns-in-Whole-clause-room g c =
    let gathered = rw c.in-Whole.is at c.gather-used.ensures.gathers in
    let long = c.args.self.now.long in
    let room = c.deref_mut.ensures.len in
    let count = c.read_into-size.ensures.count in
    let some = uses_some c.args.self.now.pending.items c.args.piece.now c.in-Whole.field-0 c.args.self.now.partial (sym c.gather-used.ensures.frame ∙ c.in-Whole.is) in
    (omega arith, omega arith)
