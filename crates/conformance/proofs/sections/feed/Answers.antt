use Rattle.std.proofs.Common.{◌∷◌}
use Rattle.psi_section.specs.Sections.{given}
use Rattle.conformance.proofs.sections.feed.Goals as goal

pub returns-clause-waits : goal.returns-clause-waits
returns-clause-waits c = λ pid past is_of waits.
    c.pass_over.ensures.waits pid (c.args.packet.now ∷ past) (given pid c.args.packet.now past) (c.feed.ensures pid past is_of waits)
