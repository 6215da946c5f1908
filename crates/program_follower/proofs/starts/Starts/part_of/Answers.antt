use Rattle.std.proofs.Common.{sym, ap, ◌∙◌}
use Rattle.std.specs.Prelude.{is_none}
use Rattle.program_follower.proofs.GoOnLemmas.{unstarted-begins-none, unstarted-sound}
use Rattle.program_follower.proofs.PlaceLemmas.{placed}
use Rattle.program_follower.proofs.starts.Starts.part_of.Goals as goal

pub returns-then-not-unit_start-clause-is : goal.returns-then-not-unit_start-clause-is
returns-then-not-unit_start-clause-is c = λ ps past at clear h.
    let p = c.args.packet.now in
    let of = placed ps p c.args.index at in
    (of.0, (of.1, unstarted-begins-none p of.0 past (sym c.unit_start.ensures ∙ c.if-not-unit_start.true)))

pub returns-then-not-unit_start-clause-told : goal.returns-then-not-unit_start-clause-told
returns-then-not-unit_start-clause-told c = λ ps past at clear h.
    let p = c.args.packet.now in
    let of = placed ps p c.args.index at in
    sym (ap is_none (unstarted-sound p ps past (c.args.index, of.0) clear (sym c.unit_start.ensures ∙ c.if-not-unit_start.true) of.1))

pub returns-in-Ok-clause-is : goal.returns-in-Ok-clause-is
returns-in-Ok-clause-is c = λ ps past at clear h. c.in-Ok.ensures.is ps past at clear h

pub returns-in-Ok-clause-told : goal.returns-in-Ok-clause-told
returns-in-Ok-clause-told c = λ ps past at clear h. sym (ap is_none (c.in-Ok.ensures.ok ps past at clear h))

pub returns-in-Err-clause-told : goal.returns-in-Err-clause-told
returns-in-Err-clause-told c = λ ps past at clear h. sym (ap is_none (c.in-Err.ensures.err ps past at clear h))
