use Rattle.std.proofs.Common.{◌≡◌, ◌∙◌, sym, Some}
use Rattle.ts_packet.specs.Fields.{pcr}
use Rattle.ts_packet.proofs.ClockLemmas.{keeps_clock}
use Rattle.ts_packet.proofs.pcr_only.pcr_only.Goals as goal

pub returns-clause-law : goal.returns-clause-law
returns-clause-law c =
    let had : pcr c.args.packet.now ≡ Some c.in_ok-clock.clock = sym c.pcr.ensures ∙ c.in_ok-clock.was in
    let made = c.of_clock.ensures in
    keeps_clock c.args.packet.now c.of_clock.result c.in_ok-clock.clock c.pid.result c.args.counter made.value c.pid.ensures made.below c.requires made.size had
