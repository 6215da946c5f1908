use Rattle.std.proofs.Common.{sym, ap, subst, ◌∙◌}
use Rattle.program_follower.specs.Program.{program_of, behind_head, pids_of}
use Rattle.program_follower.specs.Faults.{as_network}
use Rattle.program_follower.specs.Streaming.{StartsRead, first_on}
use Rattle.program_follower.specs.Following.{Since}
use Rattle.program_follower.proofs.PlaceLemmas.{no_place, unplaced}
use Rattle.program_follower.proofs.ElsewhereLemmas.{fault_elsewhere}
use Rattle.program_follower.proofs.UseLemmas.{none_since, since_read, sound_off}
use Rattle.program_follower.proofs.start_follower.StartFollower.look_at_stream.Goals as goal

pub returns-in_default : goal.returns-in_default
returns-in_default c = λ k past h e at.
    let p = c.args.packet.now in
    let none = none_since (program_of k.program past) (behind_head k.program past)
    (subst (λ s. Since StartsRead s (program_of k.program past) (behind_head k.program past)) c.in_default.is h.streams) in
    sym (sound_off k p past e c.args.self.now.tables.maps h.tables.maps (ap (λ pids. first_on pids p) none))

pub returns-then-is_marked : goal.returns-then-is_marked
returns-then-is_marked c = λ k past h e at.
    let p = c.args.packet.now in
    let pids = pids_of (program_of k.program past) in
    sym (sound_off k p past e c.args.self.now.tables.maps h.tables.maps (unplaced pids p (no_place pids p (sym c.error-is_marked.ensures ∙ c.if-is_marked.true))))

pub returns-in-None : goal.returns-in-None
returns-in-None c = λ k past h e at.
    let p = c.args.packet.now in
    let b = behind_head k.program past in
    let here = at (sym c.error-is_marked.ensures ∙ c.if-is_marked.false) in
    let r = since_read c.in-Some.streams (program_of k.program past) b (subst (λ s. Since StartsRead s (program_of k.program past) b) c.in-Some.is h.streams) in
    sym (fault_elsewhere k p past e c.args.self.now.tables.maps h.tables.maps
    ∙ ap as_network (sym (c.look_at.ensures (pids_of (program_of k.program past)) b here r) ∙ c.in-None.is))

pub returns-in-Some-look_at : goal.returns-in-Some-look_at
returns-in-Some-look_at c = λ k past h e at.
    let p = c.args.packet.now in
    let b = behind_head k.program past in
    let here = at (sym c.error-is_marked.ensures ∙ c.if-is_marked.false) in
    let r = since_read c.in-Some.streams (program_of k.program past) b (subst (λ s. Since StartsRead s (program_of k.program past) b) c.in-Some.is h.streams) in
    sym (fault_elsewhere k p past e c.args.self.now.tables.maps h.tables.maps
    ∙ ap as_network (sym (c.look_at.ensures (pids_of (program_of k.program past)) b here r) ∙ c.in-Some-look_at.is)
    ∙ c.of_unit.ensures)
