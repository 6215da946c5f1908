use Rattle.std.proofs.Common.{[], ◌≤◌, ◌∙◌, sym, subst, arith}
use Rattle.program_follower.proofs.PlaceLemmas.{zeros_elsewhere, zeros_small}
use Rattle.program_follower.proofs.pid_uses.PidUses.begin_anew.Goals as goal

pub returns-clause-places : goal.returns-clause-places
returns-clause-places c = c.add_table-2.ensures.places [] (c.add_table.ensures.places [] zeros_elsewhere)

pub returns-clause-rest : goal.returns-clause-rest
returns-clause-rest c = λ pid within pat cue.
    let first = c.add_table.ensures.others pid (λ e. pat (let z = c.of_bits.ensures in omega arith)) in
    subst (λ n. n ≤ 8) (sym (c.add_table-2.ensures.others pid cue ∙ first)) (zeros_small pid within)
