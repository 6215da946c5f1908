use Rattle.std.proofs.Common.{subst}
use Rattle.program_follower.specs.Program.{program_of, behind_head, pids_of}
use Rattle.program_follower.specs.Streaming.{StartsRead}
use Rattle.program_follower.specs.Following.{Since}
use Rattle.program_follower.proofs.UseLemmas.{uses_passed, streams_fed}
use Rattle.program_follower.proofs.start_follower.StartFollower.go_on.Goals as goal

pub returns-in-Some-clause-stands : goal.returns-in-Some-clause-stands
returns-in-Some-clause-stands c = λ k past h g.
    let p = c.args.packet.now in
    record {
      tables = c.pass.ensures.reads k p past g.elsewhere h.tables;
      streams = streams_fed k p past g.elsewhere c.in-Some.streams c.go_on.new.self (subst (λ s. Since StartsRead s (program_of k.program past) (behind_head k.program past)) c.in-Some.is h.streams)
          (λ r. c.go_on.ensures (pids_of (program_of k.program past)) (behind_head k.program past) g.place g.clear r);
      uses = uses_passed c.args.self.now.uses k p past h.uses g.elsewhere;
    }
