use Rattle.std.proofs.Common.{◌≡◌, true, false, sym, ◌∙◌}
use Rattle.std.specs.Prelude.{◌==◌}
use Rattle.psi_tables.proofs.EntryLemmas.{entry_dropped, entry_kept, without_done}
use Rattle.psi_tables.proofs.stream.entries_without.Goals as goal

pub loop-stream-preserved-then-eq : goal.loop-stream-preserved-then-eq
loop-stream-preserved-then-eq c =
    let is : (c.in-Some.stream.pid == c.args.pid) ≡ true = sym c.eq.ensures ∙ c.if-eq.true in
    entry_dropped c.args.pid _ _ c.loop-stream.rest.now c.in-Some.stream c.in-Some.front.now c.in-Some.after.now _ _ _ c.in-Some.ensures is c.loop-stream.invariant

pub loop-stream-preserved : goal.loop-stream-preserved
loop-stream-preserved c =
    let is : (c.in-Some.stream.pid == c.args.pid) ≡ false = sym c.eq.ensures ∙ c.if-eq.false in
    rw c.put.ensures (entry_kept c.args.pid _ _ c.loop-stream.rest.now c.in-Some.stream c.in-Some.front.now c.in-Some.after.now _ _ _ c.in-Some.ensures is c.loop-stream.invariant)

pub returns-clause-kept : goal.returns-clause-kept
returns-clause-kept c = (without_done c.args.pid _ _ c.loop-stream.rest.now _ _ _ c.in_default.ensures c.loop-stream.invariant).0

pub returns-clause-listed : goal.returns-clause-listed
returns-clause-listed c = (without_done c.args.pid _ _ c.loop-stream.rest.now _ _ _ c.in_default.ensures c.loop-stream.invariant).1
