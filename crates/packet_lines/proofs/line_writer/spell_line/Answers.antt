use Rattle.std.proofs.Common.{ap, ◌∙◌, slice_set}
use Rattle.packet_lines.proofs.TextLemmas.{line_ended}
use Rattle.packet_lines.proofs.line_writer.spell_line.Goals as goal

pub returns-clause-line : goal.returns-clause-line
returns-clause-line c = ap (λ l. slice_set l 376 10) c.spell.ensures ∙ line_ended c.args.line.now c.args.packet.now c.told-packet c.told-line
