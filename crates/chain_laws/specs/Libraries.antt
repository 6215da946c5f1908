-- Libraries whose units can all be packed.
use Rattle.std.specs.Prelude.{ℕ, List, Option}
use Rattle.psi_tables.specs.declared.config.Config.{Config}
use Rattle.ad_library.specs.Advertisements.{Advertisement}
use Rattle.ad_library.specs.Library.{IsLibrary}
use Rattle.injector.specs.Steps.{Step}
use Rattle.splice_plans.specs.Adverts.{packed_units}
use Rattle.switch_laws.specs.Whole.{ArePacked}
use Rattle.chain_laws.specs.Runs.{adverts_by}

-- THE LAW OF PACKED UNITS: where each unit that is filed has a byte, each that is put in is packed, whatever the first counter
abbrev pub LibrariesArePacked : Type 0
LibrariesArePacked = (c : Config) (filed : ℕ → Option Advertisement) (steps : List Step) → IsLibrary filed → ArePacked packed_units (adverts_by c filed steps)
