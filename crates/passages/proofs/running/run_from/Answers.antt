use Rattle.std.proofs.Common.{◌≡◌, subst}
use Rattle.std.specs.Prelude.{IfOk, IfErr, true, ◌⊎◌}
use Rattle.std.specs.Io.Buffered.{reader_remaining}
use Rattle.ts_packet.specs.Sinks.{Written}
use Rattle.passages.specs.Runs.{PassesAll}
use Rattle.passages.specs.Stops.{StopsAtDevice, SaysOfInput}
use Rattle.passages.specs.declared.fault.ProgramFault.TheVariants.{Unflushed}
use Rattle.passages.specs.Stopping.{side_of, reason_at}
use Rattle.passages.proofs.PassageLemmas.{read_none, told_ok, told_err, told_says}
use Rattle.passages.proofs.running.run_from.Goals as goal

pub returns-clause-done : goal.returns-clause-done
returns-clause-done g c =
    let left : reader_remaining (λ a. g.R.Read.remaining a.inner) c.new-packets.result.source.now.device.inner ≡ g.R.Read.remaining c.args.input =
    rw (c.new-packets.ensures.source, c.network_of-network.ensures.inner, c.in-Ok.ensures.capacity, c.in-Ok.ensures.empty, c.in-Ok.ensures.inner, c.new.ensures.inner) (read_none (g.R.Read.remaining c.args.input)) in
    let passes = g.S.Passage.passes c.args.passage c.args.asker.now c.run_to.new.asker in
    let is_out = Written (g.O.Write.contents c.run_to.new.output) (g.O.Write.contents c.args.output.now) in
    told_ok c.in-Ok-run_to.ended.outcome c.told.result (PassesAll passes (g.R.Read.remaining c.args.input) is_out) _ c.told.ensures.done c.told.ensures.fault
    (subst (λ l. IfOk c.in-Ok-run_to.ended.outcome (PassesAll passes l is_out)) left c.in-Ok-run_to.ensures.done)

pub returns-clause-stopped : goal.returns-clause-stopped
returns-clause-stopped g c =
    let left : reader_remaining (λ a. g.R.Read.remaining a.inner) c.new-packets.result.source.now.device.inner ≡ g.R.Read.remaining c.args.input =
    rw (c.new-packets.ensures.source, c.network_of-network.ensures.inner, c.in-Ok.ensures.capacity, c.in-Ok.ensures.empty, c.in-Ok.ensures.inner, c.new.ensures.inner) (read_none (g.R.Read.remaining c.args.input)) in
    let stops = g.S.Passage.stops c.args.passage c.args.asker.now c.run_to.new.asker in
    let start = g.O.Write.contents c.args.output.now in
    let now = g.O.Write.contents c.run_to.new.output in
    told_err c.in-Ok-run_to.ended.outcome c.told.result side_of (λ fault. reason_at (side_of fault) c.into_reason-reading.result c.in-Ok-run_to.ended.reason) _ c.in-Ok-run_to.ended.is_flushed
    (λ fault. StopsAtDevice (stops fault) (g.R.Read.remaining c.args.input) start now) c.told.ensures.done c.told.ensures.fault c.told.ensures.flushed
    (subst (λ l. IfErr c.in-Ok-run_to.ended.outcome (λ fault. c.in-Ok-run_to.ended.is_flushed ≡ true → StopsAtDevice (stops fault) l start now)) left c.in-Ok-run_to.ensures.stopped)

pub returns-clause-says : goal.returns-clause-says
returns-clause-says g c =
    let left : reader_remaining (λ a. g.R.Read.remaining a.inner) c.new-packets.result.source.now.device.inner ≡ g.R.Read.remaining c.args.input =
    rw (c.new-packets.ensures.source, c.network_of-network.ensures.inner, c.in-Ok.ensures.capacity, c.in-Ok.ensures.empty, c.in-Ok.ensures.inner, c.new.ensures.inner) (read_none (g.R.Read.remaining c.args.input)) in
    let stops = g.S.Passage.stops c.args.passage c.args.asker.now c.run_to.new.asker in
    told_says c.in-Ok-run_to.ended.outcome c.told.result side_of (λ fault. reason_at (side_of fault) c.into_reason-reading.result c.in-Ok-run_to.ended.reason) _ stops (g.R.Read.remaining c.args.input)
    c.told.ensures.done c.told.ensures.fault
    (subst (λ l. IfErr c.in-Ok-run_to.ended.outcome (λ fault. (fault ≡ Unflushed) ⊎ SaysOfInput (stops fault) l)) left c.in-Ok-run_to.ensures.says)
