use Rattle.std.proofs.Common.{refl}
use Rattle.stream_facts.proofs.judge.Judge.new.Goals as goal

pub returns : goal.returns
returns c = record { verdict = refl; good = λ e. record { follows = c.new.ensures; damage = c.none.ensures } }
