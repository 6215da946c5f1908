use Rattle.packet_lines.proofs.TextLemmas.{told_line}
use Rattle.packet_lines.proofs.laws.lines_tell_their_packets.Goals as goal

pub returns : goal.returns
returns c = told_line
