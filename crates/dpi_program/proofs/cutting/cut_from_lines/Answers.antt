use Rattle.std.proofs.Common.{◌≡◌, refl, subst, sym, ◌∙◌}
use Rattle.std.proofs.lemmas.Result.{IfOk-at_ok, IfErr-at_err}
use Rattle.std.specs.Prelude.{IfOk, IfErr, true, option_map}
use Rattle.std.specs.Io.Buffered.{reader_remaining}
use Rattle.packet_lines.specs.Texts.{bytes_told, left_in}
use Rattle.passages.specs.Stops.{CutStops}
use Rattle.passages.specs.Stopping.{side_of, reason_at}
use Rattle.passages.proofs.PassageLemmas.{read_none, told_ok, told_err}
use Rattle.dpi_program.specs.Cutting.{StopsAt, CutsAsAsked}
use Rattle.dpi_program.proofs.CuttingLemmas.{stops_as_asked, stops_over_lines}
use Rattle.dpi_program.proofs.cutting.cut_from_lines.Goals as goal

pub returns-in-Ok-told-clause-done : goal.returns-in-Ok-told-clause-done
returns-in-Ok-told-clause-done g c =
    let left : left_in c.new-packets.result.has_ended (reader_remaining (λ a. g.R.Read.remaining a.inner) c.new-packets.result.source.now.device.inner) ≡ option_map bytes_told (g.R.Read.remaining c.args.input) =
    rw (c.new-packets.ensures.begins, c.new-packets.ensures.source, c.network_of-network.ensures.inner, c.in-Ok.ensures.capacity, c.in-Ok.ensures.empty, c.in-Ok.ensures.inner, c.new.ensures.inner, read_none (g.R.Read.remaining c.args.input)) refl in
    let input = option_map bytes_told (g.R.Read.remaining c.args.input) in
    let start = g.O.Write.contents c.args.output.now in
    let now = g.O.Write.contents c.cut_to.new.output in
    IfOk-at_ok _ c.in-Ok-told.is
    (told_ok c.in-Ok-cut_to.ended.outcome c.told.result (λ _. CutsAsAsked c.args.options.now input start now) _ c.told.ensures.done c.told.ensures.fault
    (subst (λ l. IfOk c.in-Ok-cut_to.ended.outcome (λ _. CutsAsAsked c.args.options.now l start now)) left c.in-Ok-cut_to.ensures.done))

pub returns-in-Err-clause-stopped : goal.returns-in-Err-clause-stopped
returns-in-Err-clause-stopped g c = λ flushed.
    let left : left_in c.new-packets.result.has_ended (reader_remaining (λ a. g.R.Read.remaining a.inner) c.new-packets.result.source.now.device.inner) ≡ option_map bytes_told (g.R.Read.remaining c.args.input) =
    rw (c.new-packets.ensures.begins, c.new-packets.ensures.source, c.network_of-network.ensures.inner, c.in-Ok.ensures.capacity, c.in-Ok.ensures.empty, c.in-Ok.ensures.inner, c.new.ensures.inner, read_none (g.R.Read.remaining c.args.input)) refl in
    let options = c.args.options.now in
    let input = option_map bytes_told (g.R.Read.remaining c.args.input) in
    let start = g.O.Write.contents c.args.output.now in
    let now = g.O.Write.contents c.cut_to.new.output in
    let told = told_err c.in-Ok-cut_to.ended.outcome c.told.result side_of (λ fault. reason_at (side_of fault) c.into_reason-reading.result c.in-Ok-cut_to.ended.reason) _ c.in-Ok-cut_to.ended.is_flushed
    (λ fault. StopsAt options.output (CutStops options.pid options.from options.length fault) input start now) c.told.ensures.done c.told.ensures.fault c.told.ensures.flushed
    (subst (λ l. IfErr c.in-Ok-cut_to.ended.outcome (λ fault. c.in-Ok-cut_to.ended.is_flushed ≡ true → StopsAt options.output (CutStops options.pid options.from options.length fault) l start now)) left c.in-Ok-cut_to.ensures.stopped) in
    let first = stops_as_asked options input start now c.in-Err.stopped.fault (IfErr-at_err _ c.in-Err.is told (sym c.over_lines.ensures.flushed ∙ flushed)) in
    stops_over_lines options input start now c.in-Err.stopped.fault c.over_lines.result.fault c.over_lines.ensures.fault first
