use Rattle.std.proofs.Common.{◌≡◌, Some, subst, ap, ◌∙◌}
use Rattle.std.specs.Prelude.{IfOk}
use Rattle.std.specs.Io.Buffered.{reader_remaining}
use Rattle.ts_packet.specs.Sinks.{Written}
use Rattle.packet_recovery.specs.Reading.{Stays, rest_of, left_to_give, mended_by, skipped_by}
use Rattle.passages.specs.Runs.{PassesAll}
use Rattle.passages.specs.Stops.{SaysOfInput}
use Rattle.passages.specs.Stopping.{side_of, reason_at}
use Rattle.passages.specs.AirRuns.{CountsBytes, IsOfDevicesOrMemory}
use Rattle.passages.proofs.PassageLemmas.{read_none, told_ok}
use Rattle.passages.proofs.RecoveryLemmas.{counted_bytes, reported, of_devices, told_fault_is}
use Rattle.passages.proofs.air_running.run_on_air_from.Goals as goal

pub returns-clause-done : goal.returns-clause-done
returns-clause-done g c =
    let first = c.new-packets.result.inner in
    let left : rest_of first.has_ended first.is_ahead (reader_remaining (λ a. g.R.Read.remaining a.inner) first.source.now.device.inner) ≡ g.R.Read.remaining c.args.input =
    rw (c.new-packets.ensures, c.new-2.ensures.on, c.new-2.ensures.begins, c.new-2.ensures.source, c.network_of-network.ensures.inner, c.in-Ok.ensures.capacity, c.in-Ok.ensures.empty, c.in-Ok.ensures.inner, c.new.ensures.inner) (read_none (g.R.Read.remaining c.args.input)) in
    let passes = g.S.Passage.passes c.args.passage c.args.asker.now c.run_to.new.asker in
    let is_out = Written (g.O.Write.contents c.run_to.new.output) (g.O.Write.contents c.args.output.now) in
    told_ok c.counted-ended.result.outcome c.told.result (λ told. PassesAll passes (left_to_give (g.R.Read.remaining c.args.input)) is_out told.report) _ c.told.ensures.done c.told.ensures.fault
    (reported c.in-Ok-run_to.ended.outcome _ (PassesAll passes (left_to_give (g.R.Read.remaining c.args.input)) is_out) c.counted-ended.ensures.report
    (subst (λ l. IfOk c.in-Ok-run_to.ended.outcome (PassesAll passes (left_to_give l) is_out)) left c.in-Ok-run_to.ensures.done))

pub returns-clause-counts : goal.returns-clause-counts
returns-clause-counts g c =
    let first = c.new-packets.result.inner in
    let input = g.R.Read.remaining c.args.input in
    let rest = rest_of first.has_ended first.is_ahead (reader_remaining (λ a. g.R.Read.remaining a.inner) first.source.now.device.inner) in
    let left : rest ≡ input =
    rw (c.new-packets.ensures, c.new-2.ensures.on, c.new-2.ensures.begins, c.new-2.ensures.source, c.network_of-network.ensures.inner, c.in-Ok.ensures.capacity, c.in-Ok.ensures.empty, c.in-Ok.ensures.inner, c.new.ensures.inner) (read_none input) in
    let none_mended : first.mended ≡ 0 = rw c.new-packets.ensures c.new-2.ensures.mended in
    let none_skipped : first.skipped ≡ 0 = rw c.new-packets.ensures c.new-2.ensures.skipped in
    let all : mended_by first.mended rest ≡ mended_by 0 input = ap (λ n. mended_by n rest) none_mended ∙ ap (mended_by 0) left in
    let left_out : skipped_by first.skipped rest ≡ skipped_by 0 input = ap (λ n. skipped_by n rest) none_skipped ∙ ap (skipped_by 0) left in
    let ran = c.counted-ended.result.outcome in
    told_ok ran c.told.result (λ told. CountsBytes input told.mended told.skipped) _ c.told.ensures.done c.told.ensures.fault
    (counted_bytes ran input (subst (λ q. IfOk ran (λ told. Stays q (Some told.mended))) all (c.counted-ended.ensures.mended first c.in-Ok-run_to.ensures.reads))
    (subst (λ q. IfOk ran (λ told. Stays q (Some told.skipped))) left_out (c.counted-ended.ensures.skipped first c.in-Ok-run_to.ensures.reads)))

pub returns-clause-devices : goal.returns-clause-devices
returns-clause-devices g c =
    let stops = g.S.Passage.stops c.args.passage c.args.asker.now c.run_to.new.asker in
    told_fault_is c.counted-ended.result.outcome c.told.result side_of (λ fault. reason_at (side_of fault) c.into_reason-reading.result c.counted-ended.result.reason) _ IsOfDevicesOrMemory
    c.told.ensures.done c.told.ensures.fault
    (of_devices c.in-Ok-run_to.ended.outcome c.counted-ended.result.outcome (λ fault. SaysOfInput (stops fault) _) (λ fault. g.met.S.AirPassage.by_devices c.args.passage c.args.asker.now c.run_to.new.asker fault _)
    c.in-Ok-run_to.ensures.says c.counted-ended.ensures.fault c.counted-ended.ensures.devices)
