use Rattle.std.proofs.Common.{◌≡◌, ◌≤◌, arith, length}
use Rattle.packet_recovery.proofs.SightLemmas.{was_filled, missed_ahead, missed_plain}
use Rattle.packet_recovery.proofs.sight.fill_rest.Goals as goal

pub returns-in-Ok-clause-ok : goal.returns-in-Ok-clause-ok
returns-in-Ok-clause-ok g c =
    let room : length c.fill.new.buf ≡ 187 = grind arith in
    was_filled c.args.is_ahead _ _ c.args.bytes.now c.fill.new.buf c.in-Ok.n c.if-is_ahead.true c.told-bytes room c.in-Ok.ensures.ok

pub returns-in-Err-clause-err : goal.returns-in-Err-clause-err
returns-in-Err-clause-err g c = λ before low.
    let room : length c.fill.new.buf ≤ 187 = grind arith in
    missed_ahead c.args.is_ahead _ _ (length c.fill.new.buf) before c.if-is_ahead.true room c.in-Err.ensures.err low

pub returns-clause-err : goal.returns-clause-err
returns-clause-err g c = λ before low.
    let room : length c.fill-2.new.buf ≤ 188 = grind arith in
    missed_plain c.fill-2.result c.args.is_ahead _ _ (length c.fill-2.new.buf) before c.if-is_ahead.false room c.fill-2.ensures.err low
