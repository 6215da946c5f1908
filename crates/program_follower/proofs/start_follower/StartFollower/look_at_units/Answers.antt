use Rattle.std.proofs.Common.{sym, ap, subst, ◌∙◌}
use Rattle.program_follower.specs.Program.{program_of, behind_head, pids_of}
use Rattle.program_follower.specs.Faults.{as_network}
use Rattle.unit_stream.specs.Faults.{unit_fault}
use Rattle.program_follower.specs.Streaming.{StartsRead}
use Rattle.program_follower.specs.Following.{Since}
use Rattle.program_follower.proofs.UseLemmas.{none_since, since_read}
use Rattle.program_follower.proofs.start_follower.StartFollower.look_at_units.Goals as goal

pub returns-in_default : goal.returns-in_default
returns-in_default c = λ k past h.
    let p = c.args.packet.now in
    let b = behind_head k.program past in
    let none = none_since (program_of k.program past) b (subst (λ s. Since StartsRead s (program_of k.program past) b) c.in_default.is h.streams) in
    sym (ap (λ pids. as_network (unit_fault pids p b)) none)

pub returns-in-None : goal.returns-in-None
returns-in-None c = λ k past h.
    let b = behind_head k.program past in
    let r = since_read c.in-Some.streams (program_of k.program past) b (subst (λ s. Since StartsRead s (program_of k.program past) b) c.in-Some.is h.streams) in
    sym (ap as_network (sym (c.look.ensures (pids_of (program_of k.program past)) b r) ∙ c.in-None.is))

pub returns-in-Some-look : goal.returns-in-Some-look
returns-in-Some-look c = λ k past h.
    let b = behind_head k.program past in
    let r = since_read c.in-Some.streams (program_of k.program past) b (subst (λ s. Since StartsRead s (program_of k.program past) b) c.in-Some.is h.streams) in
    sym (ap as_network (sym (c.look.ensures (pids_of (program_of k.program past)) b r) ∙ c.in-Some-look.is) ∙ c.of_unit.ensures)
