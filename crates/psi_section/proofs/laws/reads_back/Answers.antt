use Rattle.psi_section.proofs.ReadBackLemmas.{read_back, nothing_left}
use Rattle.psi_section.proofs.laws.reads_back.Goals as goal

pub returns : goal.returns
returns c pid n s past pb nb can w = (read_back s can pid n past pb nb w, nothing_left s can pid n past pb nb w)
