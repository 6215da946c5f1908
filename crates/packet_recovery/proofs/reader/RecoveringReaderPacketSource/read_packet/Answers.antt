use Rattle.std.proofs.Common.{◌≡◌, ◌+◌}
use Rattle.std.specs.Prelude.{cond}
use Rattle.packet_recovery.proofs.ReaderLemmas.{gives_into, leads_by}
use Rattle.packet_recovery.proofs.reader.RecoveringReaderPacketSource.read_packet.Goals as goal

pub returns-clause-leads : goal.returns-clause-leads
returns-clause-leads g c =
    let self = c.args.self.now in (
      c.read_into.ensures.same,
      leads_by c.read_into.result _ _ c.read_into.new.packet self.given self.skipped _ self.mended _ _ _ self.is_broken c.read_into.new.self.is_broken
          (λ more. c.read_into.new.self.given ≡ self.given + cond more 1 0) c.read_into.ensures.ok c.read_into.ensures.given c.read_into.ensures.broken,
    )

pub returns-clause-ok : goal.returns-clause-ok
returns-clause-ok g c =
    let self = c.args.self.now in
    gives_into c.read_into.result _ _ c.read_into.new.packet self.given self.skipped _ self.mended _ _ _ c.read_into.ensures.ok
