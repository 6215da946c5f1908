use Rattle.std.proofs.Common.{◌≡◌, ◌<◌, ◌^◌, true, sym, subst, ◌∙◌, arith}
use Rattle.splice_plans.specs.Fronts.{IsNearTime}
use Rattle.splice_playing.specs.Resting.{is_rest, all_start_behind}
use Rattle.splice_playing.proofs.UntilLemmas.{waits-by, past-by}
use Rattle.splice_playing.proofs.playing.Playing.is_at_rest.Goals as goal

pub returns-in_default-time-clause-waits : goal.returns-in_default-time-clause-waits
returns-in_default-time-clause-waits c = λ is. waits-by c.args.self.now.rest c.args.self.now.events.obeyed.table c.in-Some.rest c.in-Some.is c.args.self.now.rested

pub returns-clause-waits : goal.returns-clause-waits
returns-clause-waits c = λ is. waits-by c.args.self.now.rest c.args.self.now.events.obeyed.table c.in-Some.rest c.in-Some.is c.args.self.now.rested

pub returns-clause-ahead : goal.returns-clause-ahead
returns-clause-ahead c = λ latest es st near is.
    let table = c.args.self.now.events.obeyed.table in
    let rest_fits : c.in-Some.rest < 2 ^ 33 = let below = c.ticks-rest_ticks.ensures.below in let value = c.ticks-rest_ticks.ensures.value in omega (arith, below, value) in
    let fits : c.in-Some-time.time < 2 ^ 33 = let below = c.ticks-ticks.ensures.below in let value = c.ticks-ticks.ensures.value in omega (arith, below, value) in
    subst (λ t. all_start_behind latest t es ≡ true) (sym c.in-Some-time.is)
    (past-by table latest es c.in-Some.rest c.in-Some-time.time rest_fits fits st (subst (IsNearTime latest) c.in-Some-time.is near)
    (subst (λ r. is_rest r table ≡ true) c.in-Some.is c.args.self.now.rested) (sym c.is_before.ensures ∙ is))
