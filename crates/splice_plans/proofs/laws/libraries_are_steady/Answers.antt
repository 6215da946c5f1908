use Rattle.splice_plans.proofs.AdvertLemmas.{libraries_are_steady}
use Rattle.splice_plans.proofs.laws.libraries_are_steady.Goals as goal

pub returns : goal.returns
returns c = libraries_are_steady
