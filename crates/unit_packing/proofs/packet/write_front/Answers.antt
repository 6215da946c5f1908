use Rattle.unit_packing.proofs.PacketLemmas.{front_written}
use Rattle.unit_packing.proofs.packet.write_front.Goals as goal

pub returns-clause-value : goal.returns-clause-value
returns-clause-value c =
    let a = c.args in
    rw c.requires.blank (front_written a.pid c.get-number.result c.indicator.result c.indicator-2.result a.counter a.size a.start a.random_access
    c.get-number.ensures.value c.indicator.ensures.value c.indicator-2.ensures.value c.requires.fits c.requires.some c.if-size-eq184.false c.if-size-eq183.false)
