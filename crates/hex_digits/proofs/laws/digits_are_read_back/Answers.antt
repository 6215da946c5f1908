use Rattle.hex_digits.proofs.ReadBackLemmas.{spelled-digits_of}
use Rattle.hex_digits.proofs.laws.digits_are_read_back.Goals as goal

pub returns : goal.returns
returns c = spelled-digits_of
