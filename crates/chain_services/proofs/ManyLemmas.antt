-- How many services there are.
use Rattle.std.proofs.Common.{◌≡◌, ℕ, List, length, sym, ap, ◌∙◌}
use Rattle.psi_tables.specs.declared.config.Config.{Config}
use Rattle.chain_services.specs.Serving.{services_in}
use Rattle.chain_services.specs.Runs.{ServicesStandFor}
use Rattle.chain_services.specs.declared.services.Services.{Services}
use Rattle.chain_services.proofs.BeginLemmas.{configs_are, as_many}

-- as many as configurations are as many as services that stand for them
pub many_served : {M : Type 0} (services : Services M) (cs : List Config) (n : ℕ) → ServicesStandFor services cs → n ≡ length cs → n ≡ length (services_in services.desk)
many_served services cs n h e = e ∙ sym (ap length (configs_are services cs h)) ∙ as_many (services_in services.desk)
