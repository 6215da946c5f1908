use Rattle.hex_digits.proofs.DigitLemmas.{spell_step}
use Rattle.hex_digits.proofs.digits.spell.Goals as goal

pub loop-index-preserved : goal.loop-index-preserved
loop-index-preserved c =
    rw (c.digit_of.ensures, c.digit_of-in-loop-index.ensures, c.loop-index.invariant)
    (spell_step c.args.line.now c.args.bytes.now c.args.start c.loop-index.index c.loop-index-test.true c.requires)
