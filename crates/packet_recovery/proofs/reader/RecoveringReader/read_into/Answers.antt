use Rattle.std.proofs.Common.{◌≡◌, true, arith, refl}
use Rattle.packet_recovery.specs.Mending.{is_plain}
use Rattle.packet_recovery.proofs.ReaderLemmas.{given_plain}
use Rattle.packet_recovery.proofs.reader.RecoveringReader.read_into.Goals as goal

pub returns-clause-ok : goal.returns-clause-ok
returns-clause-ok g c =
    let self = c.args.self.now in
    let at = c.if-not-is_in_place.ensures refl in
    let plain : is_plain c.fill_ready.new.self ≡ true = cc in
    given_plain self.has_ended self.is_ahead _ _ c.fill_ready.new.self self.given self.skipped self.mended _ at.1 at.2
    (c.if-not-fill_ready.ensures.bytes refl) c.fill_ready.ensures.size plain (omega arith) (omega arith) (let e = self.stays at.0 at.1 in grind (arith, e))
