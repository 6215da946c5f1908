use Rattle.std.proofs.Common.{get_or, arith, length, sym, ap, ◌∙◌}
use Rattle.packet_recovery.proofs.SightLemmas.{in_place, is_sync, filled}
use Rattle.packet_recovery.proofs.sight.look.Goals as goal

pub returns-then-as_bytes-eq-SYNC_BYTE-clause-ok : goal.returns-then-as_bytes-eq-SYNC_BYTE-clause-ok
returns-then-as_bytes-eq-SYNC_BYTE-clause-ok g c = λ start h.
    in_place start _ c.args.packet.now c.args.skipped.now (filled c.args.is_filled c.args.is_ahead start _ c.args.packet.now c.if-is_filled.true (c.requires c.if-is_filled.true) h)
    (sym (ap length c.as_bytes.ensures.value) ∙ c.as_bytes.ensures.size)
    (is_sync c.args.packet.now (ap (λ p. get_or p 0 0) (sym c.as_bytes.ensures.value) ∙ c.if-as_bytes-eq-SYNC_BYTE.true)) (omega arith)
