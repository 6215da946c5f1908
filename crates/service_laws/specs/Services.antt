-- SEVERAL SERVICES IN ONE STREAM: which packets are whose, and what goes out, by the history of all messages judged and packets passed.
use Rattle.std.specs.Prelude.{ℕ, if◌then◌else◌, List, [], ◌∷◌, ◌++◌, map, flat_map, Option, Some}
use Rattle.ts_packet.specs.Fields.{on_one}
use Rattle.psi_tables.specs.declared.config.Config.{Config}
use Rattle.program_follower.specs.Program.{known_pids}
use Rattle.injector.specs.Steps.{Step, Message, Packet, packets_in, cued}
use Rattle.ad_library.specs.Advertisements.{Advertisement}
use Rattle.splice_plans.specs.Adverts.{setting_of}
use Rattle.splice_plans.specs.Switching.{rest_at}
use Rattle.chain_engine.specs.Passing.{chain_at}
use Rattle.service_laws.specs.Messages.{own_steps}

-- a service: what its chain is configured for, and the advertisements that are filed for it, by number
pub record ServiceTerms : Type 0 where
  pub config : Config
  pub filed : ℕ → Option Advertisement

abbrev pub configs_of : List ServiceTerms → List Config
configs_of ss = map (λ (s : ServiceTerms). s.config) ss

-- ---- what goes out

-- WHAT STANDS FOR A PACKET: what the chain of its own sends of the service on whose PIDs it is; the packet alone where it is on those of none,
-- or marked in error
abbrev pub given_at : List ServiceTerms → List ℕ → List Step → List (List ℕ)
given_at [] p past = p ∷ []
given_at (s ∷ more) p past =
    if on_one (known_pids (Some s.config.program) (packets_in past)) p
    then chain_at s.config s.filed p (own_steps s.config.index past)
    else given_at more p past

-- for all packets, in order
abbrev pub services_send : List ServiceTerms → List Step → List (List ℕ)
services_send ss [] = []
services_send ss (Message m ∷ past) = services_send ss past
services_send ss (Packet p ∷ past) = services_send ss past ++ given_at ss p past

-- at the end of the network, what is left of the advertisements that run, service by service
abbrev pub services_rest : List ServiceTerms → List Step → List (List ℕ)
services_rest ss steps =
    flat_map (λ (s : ServiceTerms). rest_at (setting_of s.config s.filed) (cued s.config (own_steps s.config.index steps))) ss

-- THE OUTPUT of a whole run
abbrev pub services_output : List ServiceTerms → List Step → List (List ℕ)
services_output ss steps = services_send ss steps ++ services_rest ss steps
