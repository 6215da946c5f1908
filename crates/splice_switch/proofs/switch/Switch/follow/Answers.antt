use Rattle.std.proofs.Common.{◌∷◌, Some}
use Rattle.ts_packet.proofs.FieldLemmas.{error-off}
use Rattle.program_follower.specs.Purposes.{reading_cues}
use Rattle.switch_laws.proofs.StandingLemmas.{error-none}
use Rattle.outgoing_packets.proofs.GoOnLemmas.{go-on-later}
use Rattle.splice_plans.specs.Adverts.{setting_of}
use Rattle.splice_plans.specs.Switching.{switched_at}
use Rattle.splice_switch.proofs.PlayLemmas.{plays-quiet}
use Rattle.splice_switch.proofs.PremiseLemmas.{separate, clean-more}
use Rattle.splice_switch.proofs.switch.Switch.follow.Goals as goal

pub returns-in-Ok-clause-stands : goal.returns-in-Ok-clause-stands
returns-in-Ok-clause-stands c = λ cfg filed x e h.
    let k = setting_of cfg filed in
    let p = c.args.packet.now in
    let clean = clean-more (reading_cues cfg) p x.read h.clean (c.in-Ok.ensures.sound (reading_cues cfg) x.read h.follower) in
    record {
      cue_pid = h.cue_pid;
      follower = c.in-Ok.ensures.stands (reading_cues cfg) x.read h.follower;
      clean = clean;
      playing = plays-quiet c.args.self.now.playing k p x.read (error-off cfg.cue_pid p e) (error-none (switched_at k x.read) p e) (separate k (p ∷ x.read) clean).few x.counted h.playing;
      numbers = record { passed = h.numbers.passed; put = h.numbers.put; go_on = go-on-later (Some cfg.program) p x.read h.numbers.passed x.put h.numbers.go_on };
      whole = h.whole;
    }
