use Rattle.ts_packet.proofs.FieldLemmas.{payload_on-on, pid_is}
use Rattle.psi_section.proofs.AssemblerLemmas.{waits_gives}
use Rattle.on_air.proofs.tail.MapTail.read.Goals as goal

pub returns-clause-waits : goal.returns-clause-waits
returns-clause-waits c = λ pid since is waits.
    let p = c.args.packet.now in
    c.pass_over-2.ensures.waits pid _ _ (c.feed.ensures pid since (λ e. pid_is pid p (payload_on-on pid p is))
    (c.pass_over.ensures.waits pid since _ (waits_gives c.args.self.now.assembler pid since waits)))
