use Rattle.hex_digits.proofs.ReadBackLemmas.{spelled_by}
use Rattle.hex_digits.proofs.laws.spelled_by_the_digits.Goals as goal

pub returns : goal.returns
returns c = spelled_by
