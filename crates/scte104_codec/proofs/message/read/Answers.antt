use Rattle.std.proofs.Common.{sym, subst, ◌∙◌, arith}
use Rattle.scte104_codec.specs.Grammar.{Spells}
use Rattle.scte104_codec.proofs.GrammarLemmas.{reads_back, is_spelled}
use Rattle.scte104_codec.proofs.message.read.Goals as goal

pub returns-clause-spelled : goal.returns-clause-spelled
returns-clause-spelled c =
    subst (λ read. Spells read c.args.bytes.now) (sym c.read_whole.ensures) (is_spelled c.args.bytes.now c.requires (λ i. omega (arith, c.type_inv.bytes i)))

pub returns-clause-only : goal.returns-clause-only
returns-clause-only c = λ other s. c.read_whole.ensures ∙ reads_back other c.args.bytes.now (λ i. omega (arith, c.type_inv.bytes i)) s
