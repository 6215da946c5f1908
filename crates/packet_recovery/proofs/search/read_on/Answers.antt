use Rattle.std.proofs.Common.{◌≡◌, ◌+◌, ◌≤◌, ◌<◌, arith, length, take, sym, ap, ◌∙◌, length-take-le}
use Rattle.packet_recovery.proofs.SearchLemmas.{grown, grown_as, left_out, ends_nowhere, begins, begins_not, followed}
use Rattle.packet_recovery.specs.Framing.{begins_with_sync}
use Rattle.packet_recovery.proofs.FramingLemmas.{sync-take}
use Rattle.packet_recovery.proofs.search.read_on.Goals as goal
use Rattle.packet_recovery.proofs.search.read_on.Goals.{else-held-eq188-via-then-held-eq188+else-window-eq-SYNC_BYTE, else-held-eq188-via-else-held-eq188}

pub returns-then-window-eq-SYNC_BYTE-clause-ok : goal.returns-then-window-eq-SYNC_BYTE-clause-ok
returns-then-window-eq-SYNC_BYTE-clause-ok g c = λ start out before w.
    let r = c.in-Ok-eq0.ensures.ok in
    let long : length c.read_behind.new.window ≡ 189 = c.read_behind.array_long in
    let sum : c.args.held.now + c.in-Ok-eq0.field-0 ≡ 188 = omega (arith, c.if-held-eq188.true, c.in-Ok-eq0.field-0-test) in (
      out,
      grown_as start before _ _ out _ _ _ _ _ w r (ap (λ n. take n c.read_behind.new.window) sum),
      length-take-le 188 c.read_behind.new.window (omega (arith, long)),
      begins c.read_behind.new.window c.if-window-eq-SYNC_BYTE.true,
      r.end c.in-Ok-eq0.field-0-test,
    )

pub returns-else-held-eq188-clause-ok : goal.returns-else-held-eq188-clause-ok
returns-else-held-eq188-clause-ok g c = λ start out before w.
    let r = c.in-Ok-eq0.ensures.ok in
    let long : length c.read_behind.new.window ≡ 189 = c.read_behind.array_long in
    let n = c.args.held.now + c.in-Ok-eq0.field-0 in
    let sum : n ≡ c.args.held.now = omega (arith, c.in-Ok-eq0.field-0-test) in
    let size : length (take n c.read_behind.new.window) ≡ n = length-take-le n c.read_behind.new.window (omega (arith, long, sum, c.requires)) in
    ends_nowhere start before _ out (take n c.read_behind.new.window) _ _ c.args.held.now (grown start before _ _ out _ _ _ _ w r) (r.end c.in-Ok-eq0.field-0-test) (omega (arith, size, sum, c.requires))
    (λ e y. elim c.else-held-eq188.branch [
      | else-held-eq188-via-then-held-eq188+else-window-eq-SYNC_BYTE v ↦
          let some : 0 < n = omega (arith, e, size) in v.if-window-eq-SYNC_BYTE.false (begins_not c.read_behind.new.window n some y)
      | else-held-eq188-via-else-held-eq188 v ↦ v.if-held-eq188.false (sym sum ∙ sym size ∙ e)
    ])
    (sym (size ∙ sum)) c.saturating_add.ensures

pub returns-in-None-clause-ok : goal.returns-in-None-clause-ok
returns-in-None-clause-ok g c = λ start out before w.
    let r = c.in-Ok.ensures.ok in
    let p = c.in-None.ensures in
    let long : length c.read_behind.new.window ≡ 189 = c.read_behind.array_long in
    let long-on : length c.pass_on.new.window ≡ 189 = ap length p.0 ∙ long in (
      out,
      grown_as start before _ _ out _ _ _ _ _ w r (followed c.pass_on.new.window c.read_behind.new.window _ p.0 p.1 long p.3),
      length-take-le 188 c.pass_on.new.window (omega (arith, long-on)),
      sync-take c.pass_on.new.window ∙ ap begins_with_sync p.0 ∙ p.2,
    )

pub returns-in-Some-clause-ok : goal.returns-in-Some-clause-ok
returns-in-Some-clause-ok g c = λ start out before w.
    let r = c.in-Ok.ensures.ok in
    let p = c.in-Some.ensures in
    let n = c.args.held.now + c.in-Ok.n in
    let long : length c.read_behind.new.window ≡ 189 = c.read_behind.array_long in
    let size : length (take n c.read_behind.new.window) ≡ n = length-take-le n c.read_behind.new.window (omega (arith, long, c.in-Ok.ensures.fits)) in
    let fits : c.in-Some.out ≤ length (take n c.read_behind.new.window) = omega (arith, size, p.0) in (
      take c.in-Some.out (take n c.read_behind.new.window),
      left_out start before _ out (take n c.read_behind.new.window) _ _ _ c.in-Some.out (grown start before _ _ out _ _ _ _ w r) fits p.3 p.2 c.saturating_add-in-Some.ensures,
      length-take-le c.in-Some.out (take n c.read_behind.new.window) fits,
    )
