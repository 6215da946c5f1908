-- A packet on whose PID nothing of the program is: a switch puts it alone, and stands for the past with it as it is.
use Rattle.std.proofs.Common.{◌≡◌, ℕ, List, [], ◌∷◌, sym, subst}
use Rattle.std.specs.Prelude.{Option, None, Some}
use Rattle.ts_packet.specs.Fields.{pid_of}
use Rattle.ts_packet.specs.Runs.{onto}
use Rattle.psi_tables.specs.declared.config.Config.{Config}
use Rattle.program_follower.specs.Purposes.{reading_cues}
use Rattle.program_follower.specs.Program.{listed}
use Rattle.program_follower.specs.Faults.{first_fault}
use Rattle.program_follower.specs.Following.{IsUnfollowed, IsElsewhere}
use Rattle.program_follower.proofs.UnfollowedLemmas.{unfollowed-elsewhere, unfollowed-off, stands-past, clean-past}
use Rattle.outgoing_packets.specs.Numbers.{GoOnAs}
use Rattle.outgoing_packets.proofs.GoOnLemmas.{go-on-past, go-on-later}
use Rattle.ad_library.specs.Advertisements.{Advertisement}
use Rattle.splice_plans.specs.Adverts.{setting_of}
use Rattle.splice_plans.specs.Switching.{switched_past, switched_at_packet}
use Rattle.splice_plans.specs.Stepping.{Journey, steps_at, puts_next, journey_next}
use Rattle.known_laws.proofs.SteppingLemmas.{steps_are_of_moves}
use Rattle.splice_playing.specs.Relations.{PlaysBy}
use Rattle.splice_switch.specs.declared.switch.Switch.{Switch}
use Rattle.splice_switch.specs.Standing.{SwitchStandsAt, SwitchStandsFor}
use Rattle.splice_switch.proofs.PlayLemmas.{plays-quiet}
use Rattle.splice_switch.proofs.PremiseLemmas.{Passes, passes, separate, clean-more}
use Rattle.splice_switch.proofs.OutLemmas.{other-out, other-next}

module _ (c : Config) (filed : ℕ → Option Advertisement) (p : List ℕ) (past : List (List ℕ)) (u : IsUnfollowed (Some c.program) (Some c.cue_pid) (pid_of p) past) where
  elsewhere : IsElsewhere (reading_cues c) p past
  elsewhere = unfollowed-elsewhere (reading_cues c) p past u

  beside : Passes c filed p past
  beside = passes c filed p past (elsewhere.cue, elsewhere.map, unfollowed-off (reading_cues c) p past u)

  -- THE PACKET goes out alone
  pub unfollowed-out : switched_at_packet (setting_of c filed) p past ≡ p ∷ []
  unfollowed-out = other-out (setting_of c filed) p past beside.map beside.cue beside.other

  -- and the switch stands for the past with it as it is
  pub switch-past : (s : Switch) → SwitchStandsFor s c filed past → SwitchStandsFor s c filed (p ∷ past)
  switch-past s h =
      let k = setting_of c filed in
      let clean : first_fault (reading_cues c) (p ∷ past) ≡ None = clean-more (reading_cues c) p past h.clean (clean-past (reading_cues c) p past u s.follower h.follower) in
      let l = listed (Some c.program) past in
      record {
        cue_pid = h.cue_pid;
        follower = stands-past (reading_cues c) p past u s.follower h.follower;
        clean = clean;
        playing = subst (PlaysBy s.playing k (p ∷ past)) ((steps_are_of_moves k past).next p)
            (plays-quiet s.playing k p past beside.cue beside.other (separate k (p ∷ past) clean).few (steps_at k past) h.playing);
        numbers = record {
          passed = h.numbers.passed;
          put = h.numbers.put;
          go_on = subst (λ qs. GoOnAs (listed (Some c.program) (p ∷ past)) h.numbers.passed (onto (switched_past k past) qs)) (sym unfollowed-out)
              (go-on-later (Some c.program) p past h.numbers.passed (p ∷ switched_past k past) (go-on-past l p h.numbers.passed (switched_past k past) u.listed elsewhere.map h.numbers.go_on));
        };
        whole = h.whole;
      }

-- the same, however far it has come
module _ (c : Config) (filed : ℕ → Option Advertisement) (p : List ℕ) (x : Journey) (u : IsUnfollowed (Some c.program) (Some c.cue_pid) (pid_of p) x.read) where
  pub next-alone : puts_next (setting_of c filed) x p ≡ p ∷ []
  next-alone = let apart = beside c filed p x.read u in other-next (setting_of c filed) x p apart.map apart.cue apart.other

  pub next-stands : (s : Switch) → SwitchStandsAt s c filed x → SwitchStandsAt s c filed (journey_next (setting_of c filed) x p)
  next-stands s h =
      let k = setting_of c filed in
      let apart = beside c filed p x.read u in
      let clean : first_fault (reading_cues c) (p ∷ x.read) ≡ None = clean-more (reading_cues c) p x.read h.clean (clean-past (reading_cues c) p x.read u s.follower h.follower) in
      let l = listed (Some c.program) x.read in
      record {
        cue_pid = h.cue_pid;
        follower = stands-past (reading_cues c) p x.read u s.follower h.follower;
        clean = clean;
        playing = plays-quiet s.playing k p x.read apart.cue apart.other (separate k (p ∷ x.read) clean).few x.counted h.playing;
        numbers = record {
          passed = h.numbers.passed;
          put = h.numbers.put;
          go_on = subst (λ qs. GoOnAs (listed (Some c.program) (p ∷ x.read)) h.numbers.passed (onto x.put qs)) (sym next-alone)
              (go-on-later (Some c.program) p x.read h.numbers.passed (p ∷ x.put) (go-on-past l p h.numbers.passed x.put u.listed (elsewhere c filed p x.read u).map h.numbers.go_on));
        };
        whole = h.whole;
      }
