use Rattle.pes_time.proofs.ReadLemmas.{restamp_moves_alone}
use Rattle.pes_time.proofs.laws.restamp_moves_stamps_alone.Goals as goal

pub returns : goal.returns
returns c = restamp_moves_alone
