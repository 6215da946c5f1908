use Rattle.std.proofs.Common.{Some, sym, ◌∙◌}
use Rattle.program_follower.specs.Program.{program_of, behind_head, pids_of}
use Rattle.program_follower.specs.Purposes.{writing_cues}
use Rattle.program_follower.proofs.StillLemmas.{part_still}
use Rattle.injector.specs.Steps.{packets_in}
use Rattle.injector.proofs.PassedLemmas.{goes-on-past}
use Rattle.injector.proofs.injector.Injector.go_on.Goals as goal

pub returns-then-is_start-clause-stands : goal.returns-then-is_start-clause-stands
returns-then-is_start-clause-stands c = λ cfg past h g.
    c.rise.ensures.stands cfg c.args.of c.args.packet.now past (record {
      alone = g;
      judges = record { requests = h.judges.requests; counted = h.judges.counted };
      cue_pid = h.cue_pid;
      notes = h.notes;
      news = h.news;
      rest = h.rest;
      follower = c.go_on.ensures.stands (writing_cues cfg) (packets_in past) h.follower g.goes_on;
      out = h.out;
      whole = h.whole;
    })

pub returns-else-is_start-clause-stands : goal.returns-else-is_start-clause-stands
returns-else-is_start-clause-stands c = λ cfg past h g.
    let p = c.args.packet.now in
    let net = packets_in past in
    let still = part_still (writing_cues cfg) c.args.of p net g.goes_on
    (λ pid is. sym (c.is_start.ensures (pids_of (program_of (Some cfg.program) net)) pid p (behind_head (Some cfg.program) net) is) ∙ c.if-is_start.false) in
    goes-on-past c.args.self.now cfg c.args.of p past h g still c.go_on.new.self (c.go_on.ensures.stands (writing_cues cfg) net h.follower g.goes_on)
