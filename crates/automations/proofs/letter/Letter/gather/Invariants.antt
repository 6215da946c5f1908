-- What came of the message so far was read of the client, in order.
use Rattle.std.proofs.Common.{◌≡◌, ℕ, List, ◌++◌, length, false}
use Rattle.std.specs.Io.KnownBytes.{Consumes}
use Rattle.automations.specs.Clients.{held}
use Rattle.automations.proofs.letter.Letter.gather.Given as goal

abbrev pub invariant-loop : goal.invariant-loop
invariant-loop g l = (l.self.is_whole ≡ false) × (length l.room ≡ length l.initial.room)
    × ((done : List ℕ) × Consumes (g.R.Read.remaining l.initial.requests.reader) (g.R.Read.remaining l.requests.reader) done
    × (held l.self ≡ held l.initial.self ++ done))
