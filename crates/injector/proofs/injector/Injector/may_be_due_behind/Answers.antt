use Rattle.std.proofs.Common.{◌≡◌, ◌∷◌, false, refl, sym, ap, subst, ◌∙◌}
use Rattle.std.specs.Prelude.{option_map, Some}
use Rattle.pes_time.specs.Line.{ring_of}
use Rattle.unit_stream.specs.Clocks.{Rises}
use Rattle.program_follower.specs.Program.{program_of, behind_head, pids_of}
use Rattle.program_follower.specs.Purposes.{writing_cues}
use Rattle.program_follower.specs.Streaming.{IsStartPacket}
use Rattle.program_follower.specs.Following.{high_of}
use Rattle.program_follower.proofs.StillLemmas.{part_still}
use Rattle.injector.specs.Noting.{ring_reached}
use Rattle.injector.specs.Turns.{greatest_in}
use Rattle.injector.specs.Steps.{packets_in, turns_in}
use Rattle.injector.proofs.FeedLemmas.{rises-at, turns-high}
use Rattle.injector.proofs.RestLemmas.{idle-between}
use Rattle.injector.proofs.BoundLemmas.{stays-at-rest}
use Rattle.injector.proofs.injector.Injector.may_be_due_behind.Goals as goal

pub returns-in-NoStart-clause-idle : goal.returns-in-NoStart-clause-idle
returns-in-NoStart-clause-idle c = λ cfg p past h quiet g none.
    let same = part_still (writing_cues cfg) c.args.of p (packets_in past) g
    (λ pid is. subst (λ part. IsStartPacket part (pids_of (program_of (Some cfg.program) (packets_in past))) pid p (behind_head (Some cfg.program) (packets_in past))) c.in-NoStart.is is) in
    idle-between cfg past (high_of (Some cfg.program) (p ∷ packets_in past)) quiet (turns-high cfg.program past ∙ sym same)

pub returns-in-Start-clause-idle : goal.returns-in-Start-clause-idle
returns-in-Start-clause-idle c = λ cfg p past h quiet g none.
    let turns = turns_in cfg.program past in
    let latest = high_of (Some cfg.program) (p ∷ packets_in past) in
    let rises : Rises (greatest_in turns) latest = subst (λ h. Rises h latest) (sym (turns-high cfg.program past)) (rises-at cfg p (packets_in past) g.sound) in
    let time : c.high_behind.result ≡ option_map ring_of latest = c.high_behind.ensures (writing_cues cfg) (packets_in past) h.follower p g in
    let below : ring_reached c.args.self.now.rest (option_map ring_of latest) ≡ false = ap (ring_reached c.args.self.now.rest) (sym time) ∙ sym c.is_reached.ensures ∙ none in
    (stays-at-rest c.args.self.now.rest cfg.index turns latest rises h.notes.kept (idle-between cfg past (greatest_in turns) quiet refl) (h.rest (h.news ∙ quiet)) below).idle
