use Rattle.std.proofs.Common.{refl, [], subst}
use Rattle.program_follower.specs.Following.{StartsStandFor}
use Rattle.splice_plans.specs.Adverts.{setting_of}
use Rattle.splice_plans.specs.Stepping.{steps_at}
use Rattle.splice_switch.proofs.switch.Switch.begin_anew.Goals as goal

pub returns : goal.returns
returns c = λ filed. record {
  cue_pid = refl;
  follower = subst (λ purpose. StartsStandFor c.begin_anew.new.self purpose []) c.reading_cues.ensures c.begin_anew.ensures;
  clean = refl;
  playing = c.new-self.ensures (setting_of c.args.config filed) (steps_at (setting_of c.args.config filed) []);
  numbers = record { passed = []; put = c.begin_anew-2.ensures; go_on = λ pid. refl };
  whole = refl;
}
