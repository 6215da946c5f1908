use Rattle.std.proofs.Common.{sym, subst, ◌∙◌}
use Rattle.scte35_codec.specs.Grammar.{Spells}
use Rattle.scte35_codec.proofs.GrammarLemmas.{reads_back, is_spelled}
use Rattle.scte35_codec.proofs.cue.read.Goals as goal

pub returns-clause-spelled : goal.returns-clause-spelled
returns-clause-spelled c = subst (λ read. Spells read c.args.bytes.now) (sym c.read_section.ensures) (is_spelled c.args.bytes.now)

pub returns-clause-only : goal.returns-clause-only
returns-clause-only c = λ other s. c.read_section.ensures ∙ reads_back other c.args.bytes.now s
