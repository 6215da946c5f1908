use Rattle.std.proofs.Common.{◌≤◌, arith}
use Rattle.packet_recovery.proofs.SearchLemmas.{pass_some, pass_first}
use Rattle.packet_recovery.proofs.search.pass_on.Goals as goal
use Rattle.packet_recovery.proofs.search.pass_on.Goals.{else-window-eq-SYNC_BYTE-via-then-window-eq-SYNC_BYTE+else-window-eq-SYNC_BYTE-2, else-window-eq-SYNC_BYTE-via-else-window-eq-SYNC_BYTE}

pub returns-then-held-lt189 : goal.returns-then-held-lt189
returns-then-held-lt189 c = (
  c.take_out.ensures.within,
  omega (arith, c.if-held-lt189.true),
  c.take_out.ensures.kept,
  pass_some c.args.window.now c.args.held c.take_out.result c.told-window c.requires c.take_out.ensures.within c.take_out.ensures.none,
)

pub returns : goal.returns
returns c =
    let full : 189 ≤ c.args.held = omega (arith, c.if-held-lt189.false) in
    let some : 1 ≤ c.take_out-2.result = c.take_out-2.ensures.least in (
      c.take_out-2.ensures.within,
      omega (arith, c.requires, some),
      c.take_out-2.ensures.kept,
      pass_first c.args.window.now c.args.held c.take_out-2.result c.told-window c.requires full c.take_out-2.ensures.within some c.take_out-2.ensures.none
          (λ a b. elim c.else-window-eq-SYNC_BYTE.branch [
            | else-window-eq-SYNC_BYTE-via-then-window-eq-SYNC_BYTE+else-window-eq-SYNC_BYTE-2 w ↦ w.if-window-eq-SYNC_BYTE-2.false b
            | else-window-eq-SYNC_BYTE-via-else-window-eq-SYNC_BYTE w ↦ w.if-window-eq-SYNC_BYTE.false a
          ]),
    )
