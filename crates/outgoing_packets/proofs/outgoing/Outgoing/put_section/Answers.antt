use Rattle.std.proofs.Common.{rules}
use Rattle.outgoing_packets.proofs.NumberLemmas.{put-numbers}
use Rattle.std.proofs.Common.{rules}
use Rattle.outgoing_packets.proofs.outgoing.Outgoing.put_section.Goals as goal

-- src/outgoing.rt:58:5
pub returns-clause-numbers : goal.returns-clause-numbers
returns-clause-numbers g c = λ out h some.
    put-numbers c.args.self.now c.set_upcoming.new.self c.args.pid c.upcoming.result c.args.section.now out c.upcoming.ensures.pid h (c.upcoming.ensures.number out h) c.upcoming.ensures.below (search rules) (search rules)
