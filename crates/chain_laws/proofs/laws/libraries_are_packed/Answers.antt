use Rattle.chain_laws.proofs.LibraryLemmas.{libraries_are_packed}
use Rattle.chain_laws.proofs.laws.libraries_are_packed.Goals as goal

pub returns : goal.returns
returns c = libraries_are_packed
