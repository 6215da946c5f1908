use Rattle.std.proofs.Common.{◌≡◌, None, Some}
use Rattle.ts_packet.specs.Packets.{packet_fault}
use Rattle.ts_packet.specs.declared.packet.PacketFault.TheVariants.{SyncLost, BadAdaptation}
use Rattle.ts_packet.specs.declared.reader.ReadFault.TheVariants as read_faults
use Rattle.ts_packet.proofs.SourceLemmas.{refused, refuses, given, filled}
use Rattle.ts_packet.proofs.reader.PacketReader.read_into.Goals as goal

pub returns-in-None-clause-exact : goal.returns-in-None-clause-exact
returns-in-None-clause-exact g c = λ whole.
    let found : packet_fault c.fill_from.new.self ≡ None = cc in
    given _ _ _ (filled _ _ _ _ c.fill_from.ensures.size c.in-Ok-eq188.field-0-test c.in-Ok-eq188.ensures.ok found)

pub returns-in-Some-SyncLost-clause-err : goal.returns-in-Some-SyncLost-clause-err
returns-in-Some-SyncLost-clause-err g c =
    let found : packet_fault c.fill_from.new.self ≡ Some SyncLost = cc in
    refused _ _ _ _ SyncLost c.fill_from.ensures.size c.in-Ok-eq188.field-0-test c.in-Ok-eq188.ensures.ok found

pub returns-in-Some-SyncLost-clause-exact : goal.returns-in-Some-SyncLost-clause-exact
returns-in-Some-SyncLost-clause-exact g c = λ whole. refuses _ read_faults.SyncLost (returns-in-Some-SyncLost-clause-err g c)

pub returns-in-Some-BadAdaptation-clause-err : goal.returns-in-Some-BadAdaptation-clause-err
returns-in-Some-BadAdaptation-clause-err g c =
    let found : packet_fault c.fill_from.new.self ≡ Some BadAdaptation = cc in
    refused _ _ _ _ BadAdaptation c.fill_from.ensures.size c.in-Ok-eq188.field-0-test c.in-Ok-eq188.ensures.ok found

pub returns-in-Some-BadAdaptation-clause-exact : goal.returns-in-Some-BadAdaptation-clause-exact
returns-in-Some-BadAdaptation-clause-exact g c = λ whole. refuses _ read_faults.BadAdaptation (returns-in-Some-BadAdaptation-clause-err g c)
