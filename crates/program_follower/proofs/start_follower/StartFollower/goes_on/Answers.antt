use Rattle.std.proofs.Common.{◌≡◌, true, sym, ap, subst, ◌∙◌}
use Rattle.unit_stream.specs.Faults.{unit_fault}
use Rattle.program_follower.specs.Program.{program_of, behind_head, pids_of}
use Rattle.program_follower.specs.Faults.{as_network}
use Rattle.program_follower.specs.Streaming.{StartsRead, is_clear}
use Rattle.program_follower.specs.Following.{Since}
use Rattle.program_follower.proofs.ElsewhereLemmas.{fault_elsewhere}
use Rattle.program_follower.proofs.FollowLemmas.{no_unit_fault}
use Rattle.program_follower.proofs.GoOnLemmas.{streams-listed, part-good, one-of, no-fault, fault-told, no-table, no-other}
use Rattle.program_follower.proofs.UseLemmas.{use_elsewhere, use_stream, since_read}
use Rattle.program_follower.proofs.start_follower.StartFollower.goes_on.Goals as goal
use Rattle.program_follower.proofs.start_follower.StartFollower.goes_on.Goals.{then-error-via-then-error, then-error-via-else-error+then-not-is_clear}

pub returns-in-Some-part_of-clause-goes_on : goal.returns-in-Some-part_of-clause-goes_on
returns-in-Some-part_of-clause-goes_on c = λ k past h.
    let p = c.args.packet.now in
    let b = behind_head k.program past in
    let pids = pids_of (program_of k.program past) in
    let numbers = c.args.self.now.uses in
    let is = c.in-Stream.ensures.is in
    let e = use_elsewhere numbers k p past h.uses is.1 in
    let here = use_stream numbers k p past h.uses c.in-Stream.index c.use_of.ensures.pid is.0 is.1 (sym c.error.ensures ∙ c.if-error.false) in
    let clear : is_clear p ≡ true = sym c.is_clear.ensures ∙ c.if-not-is_clear.false in
    let since = subst (λ s. Since StartsRead s (program_of k.program past) b) c.in-Some.is h.streams in
    let read = since_read c.in-Some.streams (program_of k.program past) b since in
    record {
      listed = streams-listed c.in-Some.streams k.program past b since;
      elsewhere = e;
      sound = fault_elsewhere k p past e c.args.self.now.tables.maps h.tables.maps ∙ ap as_network (no-fault (unit_fault pids p b) (c.in-Some-part_of.ensures.told pids b here clear read));
      clear = clear;
      here = here;
      place = c.in-Some-part_of.ensures.is pids b here clear read;
    }

pub returns-in-Table-clause-told : goal.returns-in-Table-clause-told
returns-in-Table-clause-told c = λ k past h of m.
    absurd (no-table c.args.self.now.uses k c.args.packet.now past h.uses c.use_of.ensures.pid of m c.in-Table.ensures.is)

pub returns-in-Other-clause-told : goal.returns-in-Other-clause-told
returns-in-Other-clause-told c = λ k past h of m.
    absurd (no-other c.args.self.now.uses k c.args.packet.now past h.uses c.use_of.ensures.pid of m c.in-Other.ensures.is)

pub returns-then-error-clause-told : goal.returns-then-error-clause-told
returns-then-error-clause-told c = λ k past h of m.
    let good = part-good (pids_of (program_of k.program past)) c.args.packet.now of.stream m.here in
    elim c.then-error.branch [
      | then-error-via-then-error w ↦ absurd (let e = c.error.ensures in let y = w.if-error.true in cc)
      | then-error-via-else-error+then-not-is_clear w ↦ absurd (let e = w.is_clear.ensures in let y = w.if-not-is_clear.true in let clear = m.clear in cc)
    ]

pub returns-in-None-clause-told : goal.returns-in-None-clause-told
returns-in-None-clause-told c = λ k past h of m.
    let p = c.args.packet.now in
    let b = behind_head k.program past in
    let pids = pids_of (program_of k.program past) in
    let is = c.in-Stream.ensures.is in
    let here = use_stream c.args.self.now.uses k p past h.uses c.in-Stream.index c.use_of.ensures.pid is.0 is.1 (sym c.error.ensures ∙ c.if-error.false) in
    let read = since_read c.in-Some.streams (program_of k.program past) b (subst (λ s. Since StartsRead s (program_of k.program past) b) c.in-Some.is h.streams) in
    let sound = no_unit_fault (unit_fault pids p b) (sym (fault_elsewhere k p past m.elsewhere c.args.self.now.tables.maps h.tables.maps) ∙ m.sound) in
    absurd (fault-told (unit_fault pids p b) (c.in-None.ensures.told pids b here m.clear read) sound)

pub returns-in-Some-part_of-clause-told : goal.returns-in-Some-part_of-clause-told
returns-in-Some-part_of-clause-told c = λ k past h of m.
    let p = c.args.packet.now in
    let b = behind_head k.program past in
    let pids = pids_of (program_of k.program past) in
    let is = c.in-Stream.ensures.is in
    let here = use_stream c.args.self.now.uses k p past h.uses c.in-Stream.index c.use_of.ensures.pid is.0 is.1 (sym c.error.ensures ∙ c.if-error.false) in
    let read = since_read c.in-Some.streams (program_of k.program past) b (subst (λ s. Since StartsRead s (program_of k.program past) b) c.in-Some.is h.streams) in
    one-of of c.in-Stream.index c.in-Some-part_of.part pids p b m.here here m.place (c.in-Some-part_of.ensures.is pids b here m.clear read)
