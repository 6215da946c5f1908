use Rattle.packet_lines.proofs.LawLemmas.{bad_line_is_first}
use Rattle.packet_lines.proofs.laws.bad_line_is_first.Goals as goal

pub returns : goal.returns
returns c = bad_line_is_first
