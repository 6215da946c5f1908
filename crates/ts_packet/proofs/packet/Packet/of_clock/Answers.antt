use Rattle.std.proofs.Common.{◌≡◌, length, rules}
use Rattle.ts_packet.proofs.ClockLemmas.{clock_packet-is}
use Rattle.ts_packet.proofs.packet.Packet.of_clock.Goals as goal

pub returns-clause-value : goal.returns-clause-value
returns-clause-value c =
    let size : length c.args.clock ≡ 6 = search rules in
    clock_packet-is c.args.pid c.get-number.result c.args.counter c.args.clock size c.get-number.ensures.value
