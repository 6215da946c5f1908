use Rattle.std.proofs.Common.{sym, ◌∙◌}
use Rattle.program_follower.proofs.UnfollowedLemmas.{unfollowed}
use Rattle.program_follower.proofs.start_follower.StartFollower.overlooks.Goals as goal

pub returns-then-is_behind_pat : goal.returns-then-is_behind_pat
returns-then-is_behind_pat c = λ k past h none.
    unfollowed c.args.self.now.uses k past c.args.pid h.uses (sym (c.is_behind_pat.ensures k past h.tables) ∙ c.if-is_behind_pat.true) c.is_of_none.ensures.pid (c.is_of_none.ensures.none none)
