use Rattle.std.proofs.Common.{◌≡◌, ◌<◌, length, take, arith, sym, ap, ◌∙◌, Some, Err, rules, nat_lt}
use Rattle.ts_packet.specs.declared.packet.PacketFault.TheVariants as packet_faults
use Rattle.packet_lines.specs.Texts.{packet_in}
use Rattle.packet_lines.proofs.TextLemmas.{line_given, line_refused, line_bad, line_none, judged_ok, judged_err, judged_none, well_or_none, below, read_so}
use Rattle.packet_lines.proofs.line_reader.LineReaderPacketSource.read_packet.Goals as goal

pub returns-in-Ok-eq0-clause-ok : goal.returns-in-Ok-eq0-clause-ok
returns-in-Ok-eq0-clause-ok g c =
    let size : length c.fill.new.buf ≡ 377 = search rules in
    rw c.if-self-2.false (line_none _ _ c.fill.new.buf _ size c.in-Ok-eq0.field-0-test c.in-Ok-eq0.ensures.ok)

pub returns-in-Some-Ok-clause-ok : goal.returns-in-Some-Ok-clause-ok
returns-in-Some-Ok-clause-ok g c =
    let n = c.in-Ok.count in
    let size : length c.fill.new.buf ≡ 377 = search rules in
    let some : 0 < n = grind (arith, c.in-Ok.count-test) in
    let is = judged_ok (packet_in (take n c.fill.new.buf)) c.in-Some-Ok.found (sym c.packet_of.ensures ∙ c.in-Some-Ok.is ∙ ap Some c.in-Some-Ok.field-0-is) in
    rw c.if-self-2.false (line_given _ _ c.fill.new.buf n c.in-Some-Ok.found (nat_lt n 377) size some c.in-Ok.ensures.ok (below n 377) is.0 is.1)

pub returns-in-Some-Ok-clause-counts : goal.returns-in-Some-Ok-clause-counts
returns-in-Some-Ok-clause-counts g c =
    let size : length c.fill.new.buf ≡ 377 = search rules in
    (c.if-self-2.false, read_so c.in-Ok.count 377 _ _ (rw size at c.in-Ok.ensures.ok.fits) (rw size at c.in-Ok.ensures.counts))

pub returns-in-Some-Err-SyncLost-clause-err : goal.returns-in-Some-Err-SyncLost-clause-err
returns-in-Some-Err-SyncLost-clause-err g c =
    let n = c.in-Ok.count in
    let size : length c.fill.new.buf ≡ 377 = search rules in
    let some : 0 < n = grind (arith, c.in-Ok.count-test) in
    let is = judged_err (packet_in (take n c.fill.new.buf)) packet_faults.SyncLost (sym c.packet_of.ensures ∙ c.in-Some-Err-SyncLost.is ∙ ap Some (c.in-Some-Err-SyncLost.field-0-is ∙ ap Err c.in-Some-Err-SyncLost.field-0-0-is)) in
    rw c.if-self-2.false (line_refused _ _ c.fill.new.buf n is.0 packet_faults.SyncLost size some c.in-Ok.ensures.ok is.1 is.2)

pub returns-in-Some-Err-SyncLost-clause-blamed : goal.returns-in-Some-Err-SyncLost-clause-blamed
returns-in-Some-Err-SyncLost-clause-blamed g c =
    let size : length c.fill.new.buf ≡ 377 = search rules in
    (c.if-self-2.false, well_or_none c.in-Ok.count 377 _ _ (rw size at c.in-Ok.ensures.ok.fits) (rw size at c.in-Ok.ensures.counts))

pub returns-in-Some-Err-BadAdaptation-clause-err : goal.returns-in-Some-Err-BadAdaptation-clause-err
returns-in-Some-Err-BadAdaptation-clause-err g c =
    let n = c.in-Ok.count in
    let size : length c.fill.new.buf ≡ 377 = search rules in
    let some : 0 < n = grind (arith, c.in-Ok.count-test) in
    let is = judged_err (packet_in (take n c.fill.new.buf)) packet_faults.BadAdaptation (sym c.packet_of.ensures ∙ c.in-Some-Err-BadAdaptation.is ∙ ap Some (c.in-Some-Err-BadAdaptation.field-0-is ∙ ap Err c.in-Some-Err-BadAdaptation.field-0-0-is)) in
    rw c.if-self-2.false (line_refused _ _ c.fill.new.buf n is.0 packet_faults.BadAdaptation size some c.in-Ok.ensures.ok is.1 is.2)

pub returns-in-Some-Err-BadAdaptation-clause-blamed : goal.returns-in-Some-Err-BadAdaptation-clause-blamed
returns-in-Some-Err-BadAdaptation-clause-blamed g c =
    let size : length c.fill.new.buf ≡ 377 = search rules in
    (c.if-self-2.false, well_or_none c.in-Ok.count 377 _ _ (rw size at c.in-Ok.ensures.ok.fits) (rw size at c.in-Ok.ensures.counts))

pub returns-in-None-clause-err : goal.returns-in-None-clause-err
returns-in-None-clause-err g c =
    let n = c.in-Ok.count in
    let size : length c.fill.new.buf ≡ 377 = search rules in
    let some : 0 < n = grind (arith, c.in-Ok.count-test) in
    let is = judged_none (packet_in (take n c.fill.new.buf)) (sym c.packet_of.ensures ∙ c.in-None.is) in
    rw c.if-self-2.false (line_bad _ _ c.fill.new.buf n size some c.in-Ok.ensures.ok is)
