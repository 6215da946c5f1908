use Rattle.std.proofs.Common.{sym, subst, ◌∙◌}
use Rattle.program_follower.specs.Program.{program_of, behind_head, pids_of}
use Rattle.program_follower.specs.Following.{IsStartPlace}
use Rattle.program_follower.proofs.StillLemmas.{still_stream, rises_stream}
use Rattle.program_follower.proofs.start_follower.StartPlace.may_rise.Goals as goal

pub returns-in-Stream-clause-still : goal.returns-in-Stream-clause-still
returns-in-Stream-clause-still c = λ k p past h none.
    still_stream k p past _ _ (subst (λ x. IsStartPlace x k p past) c.in-Stream.is h)
    (λ pid s. sym (c.is_start.ensures (pids_of (program_of k.program past)) pid p (behind_head k.program past) s) ∙ none)

pub returns-in-Stream-clause-exact : goal.returns-in-Stream-clause-exact
returns-in-Stream-clause-exact c = λ k p past h.
    rises_stream k p past _ _ c.is_start.result (subst (λ x. IsStartPlace x k p past) c.in-Stream.is h)
    (λ pid s. c.is_start.ensures (pids_of (program_of k.program past)) pid p (behind_head k.program past) s)
