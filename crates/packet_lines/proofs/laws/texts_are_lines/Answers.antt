use Rattle.packet_lines.proofs.LawLemmas.{texts_are_lines}
use Rattle.packet_lines.proofs.laws.texts_are_lines.Goals as goal

pub returns : goal.returns
returns c = texts_are_lines
