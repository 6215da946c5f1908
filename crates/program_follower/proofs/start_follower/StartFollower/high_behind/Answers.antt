use Rattle.std.proofs.Common.{sym, ap, subst, ◌∙◌}
use Rattle.std.specs.Prelude.{option_map}
use Rattle.pes_time.specs.Line.{ring_of}
use Rattle.program_follower.specs.Program.{program_of, behind_head, pids_of}
use Rattle.program_follower.specs.Streaming.{StartsRead}
use Rattle.program_follower.specs.Following.{Since}
use Rattle.program_follower.proofs.StillLemmas.{high_grown, since_known}
use Rattle.program_follower.proofs.UseLemmas.{since_read}
use Rattle.program_follower.proofs.start_follower.StartFollower.high_behind.Goals as goal

pub returns-in-Some : goal.returns-in-Some
returns-in-Some c = λ k past h p g.
    let b = behind_head k.program past in
    let since = subst (λ s. Since StartsRead s (program_of k.program past) b) c.in-Some.is h.streams in
    let known = since_known StartsRead c.in-Some.streams (program_of k.program past) b since in
    c.high_behind.ensures (pids_of (program_of k.program past)) p b g.place (since_read c.in-Some.streams (program_of k.program past) b since)
    ∙ ap (option_map ring_of) (sym (high_grown k.program p past known.0 known.1))
