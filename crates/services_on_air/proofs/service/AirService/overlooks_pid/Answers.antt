use Rattle.std.proofs.Common.{sym, subst, ◌∙◌, Some}
use Rattle.program_follower.specs.Following.{IsUnfollowed}
use Rattle.services_on_air.proofs.service.AirService.overlooks_pid.Goals as goal

pub returns : goal.returns
returns c = λ a h is. record {
  begun = sym h.is_empty ∙ c.if-self.false;
  alone = sym h.shares ∙ c.if-self-2.false;
  unfollowed = subst (IsUnfollowed (Some a.config.program) (Some a.config.cue_pid) c.args.pid) h.followed.packets
      (c.overlooks_pid.ensures a.config h.followed.steps h.followed.injector is);
}
