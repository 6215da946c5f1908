use Rattle.std.proofs.Common.{◌≡◌, reverse, subst}
use Rattle.std.specs.Io.Buffered.{reader_remaining}
use Rattle.passages.proofs.PassageLemmas.{read_none}
use Rattle.dpi_program.specs.Planning.{HasFed}
use Rattle.dpi_program.proofs.planning.timeline_from.Goals as goal

pub returns-in-Ok-finish : goal.returns-in-Ok-finish
returns-in-Ok-finish g c =
    let left : reader_remaining g.R.Read.remaining c.new-packets.result.source.now.inner ≡ g.R.Read.remaining c.args.reader =
    rw (c.new-packets.ensures.source, c.new-device.ensures.inner, c.in-Ok.ensures.capacity, c.in-Ok.ensures.empty, c.in-Ok.ensures.inner) (read_none (g.R.Read.remaining c.args.reader)) in
    let fed = subst (HasFed c.feed_all.new.timeline c.args.program) left (c.in_ok-feed_all.ensures c.args.program c.new-timeline.ensures) in
    let (ps, stands, packets) = fed in
    (ps, c.in-Ok-finish.ensures.ok c.args.program (reverse ps) stands, packets)
