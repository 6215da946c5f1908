use Rattle.std.proofs.Common.{◌<◌, ◌≤◌, ◌+◌, sym, subst, length}
use Rattle.splice_plans.proofs.TurnLemmas.{FirstUpTo, nothing-yet, one-more-first, none-closes, first-of-all}
use Rattle.splice_plans.proofs.turns.first_closing.Goals as goal

pub loop-at-init : goal.loop-at-init
loop-at-init c = nothing-yet c.args.table.now c.args.stream

pub loop-at-preserved : goal.loop-at-preserved
loop-at-preserved c = subst (λ f. FirstUpTo c.args.table.now c.args.stream (c.loop-at.at + 1) f) (sym c.sooner-first.ensures)
    (one-more-first c.args.table.now c.args.stream c.loop-at.at c.loop-at.first c.loop-at.invariant (subst (λ xs. c.loop-at.at < length xs) c.standing-at-end.ensures.entries c.loop-at-test.true))

pub returns-clause-none : goal.returns-clause-none
returns-clause-none c = none-closes c.args.table.now c.args.stream c.loop-at.at c.loop-at.first c.loop-at.invariant (subst (λ xs. length xs ≤ c.loop-at.at) c.standing-at-end.ensures.entries c.loop-at-test.false)

pub returns-clause-some : goal.returns-clause-some
returns-clause-some c = first-of-all c.args.table.now c.args.stream c.loop-at.at c.loop-at.first c.loop-at.invariant (subst (λ xs. length xs ≤ c.loop-at.at) c.standing-at-end.ensures.entries c.loop-at-test.false)
