use Rattle.std.proofs.Common.{sym, ◌∙◌}
use Rattle.program_follower.proofs.PlaceLemmas.{no_place}
use Rattle.program_follower.proofs.places.StreamPlaces.place_of.Goals as goal

pub returns-then-error-clause-first : goal.returns-then-error-clause-first
returns-then-error-clause-first c = λ pids has. no_place pids c.args.packet.now (sym c.error.ensures ∙ c.if-error.true)
