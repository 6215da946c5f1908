use Rattle.std.proofs.Common.{◌≡◌, subst}
use Rattle.std.specs.Prelude.{IfOk, IfErr, true}
use Rattle.std.specs.Io.Buffered.{reader_remaining}
use Rattle.passages.specs.Stops.{CutStops}
use Rattle.passages.specs.Stopping.{side_of, reason_at}
use Rattle.passages.proofs.PassageLemmas.{read_none, told_ok, told_err, if_err_so}
use Rattle.dpi_program.specs.Cutting.{StopsAt, CutsAsAsked}
use Rattle.dpi_program.proofs.CuttingLemmas.{stops_as_asked}
use Rattle.dpi_program.proofs.cutting.cut_from_bytes.Goals as goal

pub returns-clause-done : goal.returns-clause-done
returns-clause-done g c =
    let left : reader_remaining (λ a. g.R.Read.remaining a.inner) c.new-packets.result.source.now.device.inner ≡ g.R.Read.remaining c.args.input =
    rw (c.new-packets.ensures.source, c.network_of-network.ensures.inner, c.in-Ok.ensures.capacity, c.in-Ok.ensures.empty, c.in-Ok.ensures.inner, c.new.ensures.inner) (read_none (g.R.Read.remaining c.args.input)) in
    let start = g.O.Write.contents c.args.output.now in
    let now = g.O.Write.contents c.cut_to.new.output in
    told_ok c.in-Ok-cut_to.ended.outcome c.told.result (λ _. CutsAsAsked c.args.options.now (g.R.Read.remaining c.args.input) start now) _ c.told.ensures.done c.told.ensures.fault
    (subst (λ l. IfOk c.in-Ok-cut_to.ended.outcome (λ _. CutsAsAsked c.args.options.now l start now)) left c.in-Ok-cut_to.ensures.done)

pub returns-clause-stopped : goal.returns-clause-stopped
returns-clause-stopped g c =
    let left : reader_remaining (λ a. g.R.Read.remaining a.inner) c.new-packets.result.source.now.device.inner ≡ g.R.Read.remaining c.args.input =
    rw (c.new-packets.ensures.source, c.network_of-network.ensures.inner, c.in-Ok.ensures.capacity, c.in-Ok.ensures.empty, c.in-Ok.ensures.inner, c.new.ensures.inner) (read_none (g.R.Read.remaining c.args.input)) in
    let options = c.args.options.now in
    let input = g.R.Read.remaining c.args.input in
    let start = g.O.Write.contents c.args.output.now in
    let now = g.O.Write.contents c.cut_to.new.output in
    let told = told_err c.in-Ok-cut_to.ended.outcome c.told.result side_of (λ fault. reason_at (side_of fault) c.into_reason-reading.result c.in-Ok-cut_to.ended.reason) _ c.in-Ok-cut_to.ended.is_flushed
    (λ fault. StopsAt options.output (CutStops options.pid options.from options.length fault) input start now) c.told.ensures.done c.told.ensures.fault c.told.ensures.flushed
    (subst (λ l. IfErr c.in-Ok-cut_to.ended.outcome (λ fault. c.in-Ok-cut_to.ended.is_flushed ≡ true → StopsAt options.output (CutStops options.pid options.from options.length fault) l start now)) left c.in-Ok-cut_to.ensures.stopped) in
    if_err_so c.told.result _ _ (λ stopped h flushed. stops_as_asked options input start now stopped.fault (h flushed)) told
