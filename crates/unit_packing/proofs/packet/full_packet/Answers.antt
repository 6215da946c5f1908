use Rattle.std.proofs.Common.{◌∙◌, arith}
use Rattle.unit_packing.proofs.PacketLemmas.{full_written}
use Rattle.unit_packing.proofs.PutLemmas.{no_fault}
use Rattle.unit_packing.proofs.packet.full_packet.Goals as goal

pub packet_of-requires : goal.packet_of-requires
packet_of-requires c =
    let a = c.args in
    let e = full_written a.pid c.get-number.result a.counter c.copy_from_slice.new.self a.part.now c.get-number.ensures.value c.get-number.ensures.below c.requires.number c.copy_from_slice.ensures.after c.requires.full in
    no_fault a.pid a.counter _ _ a.part.now _ e (omega (arith, c.get-number.ensures)) c.requires.number (omega arith) (omega arith)

pub returns : goal.returns
returns c =
    let a = c.args in
    c.packet_of.ensures ∙ full_written a.pid c.get-number.result a.counter c.copy_from_slice.new.self a.part.now c.get-number.ensures.value c.get-number.ensures.below c.requires.number c.copy_from_slice.ensures.after c.requires.full
