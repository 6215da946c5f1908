use Rattle.unit_packing.proofs.PacketLemmas.{part_written}
use Rattle.unit_packing.proofs.packet.write_packet.Goals as goal

pub returns-clause-value : goal.returns-clause-value
returns-clause-value c =
    let a = c.args in
    part_written a.pid a.counter a.start a.random_access c.write_front.new.bytes c.copy_from_slice.new.self a.part.now c.write_front.ensures.value c.copy_from_slice.ensures.after c.requires.fits
