-- What a switch stands for it stands for too where it is open what is out.
use Rattle.std.proofs.Common.{ℕ, List}
use Rattle.std.specs.Prelude.{Option}
use Rattle.psi_tables.specs.declared.config.Config.{Config}
use Rattle.ad_library.specs.Advertisements.{Advertisement}
use Rattle.splice_plans.specs.Adverts.{setting_of}
use Rattle.splice_plans.specs.Stepping.{steps_at}
use Rattle.splice_playing.proofs.UnaskedLemmas.{plays-unasked}
use Rattle.splice_switch.specs.declared.switch.Switch.{Switch}
use Rattle.splice_switch.specs.Standing.{SwitchStandsFor, switch_unasked}

pub stands-unasked : (s : Switch) (c : Config) (filed : ℕ → Option Advertisement) (past : List (List ℕ)) → SwitchStandsFor s c filed past
    → SwitchStandsFor (switch_unasked s) c filed past
stands-unasked s c filed past h = record {
  cue_pid = h.cue_pid;
  follower = h.follower;
  clean = h.clean;
  playing = plays-unasked s.playing (setting_of c filed) past (steps_at (setting_of c filed) past) h.playing;
  numbers = record { passed = h.numbers.passed; put = h.numbers.put; go_on = h.numbers.go_on };
  whole = h.whole;
}
