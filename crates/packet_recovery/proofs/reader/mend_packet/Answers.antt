use Rattle.std.proofs.Common.{◌≡◌, None, Some, arith}
use Rattle.ts_packet.specs.Packets.{packet_fault}
use Rattle.ts_packet.specs.declared.packet.PacketFault.TheVariants.{SyncLost, BadAdaptation}
use Rattle.packet_recovery.proofs.MendingLemmas.{mends-bad, mends-lost, mends-none}
use Rattle.packet_recovery.proofs.reader.mend_packet.Goals as goal

pub returns-in-Some-BadAdaptation-clause-count : goal.returns-in-Some-BadAdaptation-clause-count
returns-in-Some-BadAdaptation-clause-count c =
    let found : packet_fault c.args.packet.now ≡ Some BadAdaptation = cc in
    let one = mends-bad c.args.packet.now found in
    omega (arith, one, c.saturating_add.ensures)

pub returns-in-Some-SyncLost-clause-count : goal.returns-in-Some-SyncLost-clause-count
returns-in-Some-SyncLost-clause-count c =
    let found : packet_fault c.args.packet.now ≡ Some SyncLost = cc in
    let none = mends-lost c.args.packet.now found in
    omega (arith, none)

pub returns-in-None-clause-count : goal.returns-in-None-clause-count
returns-in-None-clause-count c =
    let found : packet_fault c.args.packet.now ≡ None = cc in
    let none = mends-none c.args.packet.now found in
    omega (arith, none)
