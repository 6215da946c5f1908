use Rattle.std.proofs.Common.{sym, ◌∙◌}
use Rattle.splice_playing.proofs.UntilLemmas.{waits-by-some}
use Rattle.splice_playing.proofs.playing.Playing.rests.Goals as goal

pub returns-clause-waits : goal.returns-clause-waits
returns-clause-waits c = λ is. waits-by-some c.args.self.now.rest c.args.self.now.events.obeyed.table c.args.self.now.rested (sym c.is_some.ensures ∙ is)
