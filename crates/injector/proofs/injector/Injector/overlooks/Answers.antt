use Rattle.std.proofs.Common.{subst}
use Rattle.std.specs.Prelude.{Some}
use Rattle.injector.specs.Steps.{packets_in}
use Rattle.program_follower.specs.Following.{IsUnfollowed}
use Rattle.injector.proofs.injector.Injector.overlooks.Goals as goal

pub returns-then-not-self-clause-unfollowed : goal.returns-then-not-self-clause-unfollowed
returns-then-not-self-clause-unfollowed c = λ cfg past h none.
    subst (λ pid. IsUnfollowed (Some cfg.program) (Some cfg.cue_pid) pid (packets_in past)) c.pid.ensures (c.overlooks_pid.ensures cfg past h none)
