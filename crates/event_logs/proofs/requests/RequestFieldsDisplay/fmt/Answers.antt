use Rattle.std.proofs.Common.{rules, sym}
use Rattle.event_logs.proofs.requests.RequestFieldsDisplay.fmt.Goals as goal

-- the numbers that are written are those of the fields
pub returns-clause-writes : goal.returns-clause-writes
returns-clause-writes g c = rw (sym c.from.ensures) (rw (sym c.from-2.ensures) (search rules))
