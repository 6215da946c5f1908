use Rattle.std.proofs.Common.{◌<◌, get_or, true, rules}
use Rattle.std.proofs.Output.{has_written_append, has_written_of_eq}
use Rattle.std.proofs.lemmas.Fmt.{hex_byte}
use Rattle.hex_digits.proofs.DigitLemmas.{digits_step}
use Rattle.hex_digits.proofs.digits.DigitsDisplay.fmt.Goals as goal

pub loop-byte-preserved : goal.loop-byte-preserved
loop-byte-preserved g c = λ plain.
    let byte = get_or c.args.self.now.0.now c.loop-byte.byte-index 0 in
    let small : byte < 256 = search rules in
    has_written_of_eq _ _ _ _ _ (digits_step c.args.self.now.0.now c.loop-byte.byte-index c.loop-byte-test.true)
    (has_written_append _ _ _ _ _ _ (c.loop-byte.invariant plain) (has_written_of_eq _ _ _ _ _ (hex_byte true byte small) (search rules)))
