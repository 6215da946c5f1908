use Rattle.std.proofs.Common.{sym, ◌∙◌, rules}
use Rattle.outgoing_packets.proofs.NumberLemmas.{passed-numbers, marked-numbers}
use Rattle.std.proofs.Common.{rules}
use Rattle.outgoing_packets.proofs.outgoing.Outgoing.pass.Goals as goal

-- src/outgoing.rt:37:5
pub returns-then-not-error-clause-numbers : goal.returns-then-not-error-clause-numbers
returns-then-not-error-clause-numbers g c = λ out h.
    passed-numbers c.args.self.now c.set_upcoming.new.self c.args.packet.now out h (sym c.error.ensures ∙ c.if-not-error.true) (search rules) (search rules)

-- src/outgoing.rt:37:5
pub returns-else-not-error-clause-numbers : goal.returns-else-not-error-clause-numbers
returns-else-not-error-clause-numbers g c = λ out h. marked-numbers c.args.self.now c.args.packet.now out h (sym c.error.ensures ∙ c.if-not-error.false)
