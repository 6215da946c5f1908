use Rattle.std.proofs.Common.{arith, length, get_or, sym, ap, ◌∙◌, subst}
use Rattle.std.specs.Io.KnownBytes.{Consumes}
use Rattle.packet_recovery.proofs.SightLemmas.{in_place, part_left, whole, is_sync}
use Rattle.packet_recovery.proofs.sight.look_apart.Goals as goal

pub returns-in-Ok-clause-ok : goal.returns-in-Ok-clause-ok
returns-in-Ok-clause-ok g c =
    let f = c.in-Ok.ensures.ok in
    let fits = f.fits in
    part_left _ _ c.fill_rest.new.bytes c.in-Ok.n _ _ f c.fill_rest.array_long (omega (arith, fits, c.in-Ok.n-test)) c.saturating_add.ensures

pub returns-then-as_bytes-eq-SYNC_BYTE-clause-ok : goal.returns-then-as_bytes-eq-SYNC_BYTE-clause-ok
returns-then-as_bytes-eq-SYNC_BYTE-clause-ok g c =
    let read = whole _ _ c.fill_rest.new.bytes c.in-Ok-eq188.field-0 c.in-Ok-eq188.ensures.ok c.fill_rest.array_long c.in-Ok-eq188.field-0-test in
    in_place _ _ c.set_bytes.new.self c.args.skipped.now (subst (Consumes _ _) (sym c.set_bytes.ensures) read) (ap length c.set_bytes.ensures ∙ c.fill_rest.array_long)
    (is_sync c.set_bytes.new.self (ap (λ p. get_or p 0 0) (sym c.as_bytes.ensures.value) ∙ c.if-as_bytes-eq-SYNC_BYTE.true)) (omega arith)
