use Rattle.std.proofs.Common.{◌∙◌}
use Rattle.psi_section.proofs.PacketiserLemmas.{next_made}
use Rattle.psi_section.proofs.packetiser.Packetiser.next_packet.Goals as goal

pub returns : goal.returns
returns c =
    let p = c.args.self.now in
    c.packet_of.ensures ∙ next_made c.header-bytes.result c.copy_from_slice.new.self c.args.section.now p.pid p.counter c.min-count.result c.header-bytes.ensures.value c.copy_from_slice.ensures.after c.min-count.ensures
