use Rattle.std.proofs.Common.{refl, [], subst}
use Rattle.program_follower.specs.Following.{StartsStandFor}
use Rattle.splice_plans.specs.Adverts.{setting_of}
use Rattle.splice_plans.specs.Stepping.{steps_at}
use Rattle.splice_switch.proofs.switch.Switch.new.Goals as goal

pub returns : goal.returns
returns c = λ filed. record {
  cue_pid = refl;
  follower = subst (λ purpose. StartsStandFor c.new.result purpose []) c.reading_cues.ensures c.new.ensures;
  clean = refl;
  playing = c.new-2.ensures (setting_of c.args.config filed) (steps_at (setting_of c.args.config filed) []);
  numbers = record { passed = []; put = c.new-3.ensures; go_on = λ pid. refl };
  whole = refl;
}
