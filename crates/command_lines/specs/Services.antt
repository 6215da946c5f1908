-- What the options of `services` say, and why they are not taken.
use Rattle.std.specs.Prelude.{◌≡◌, ◌⊎◌, ◌&&◌, false, codes}
use Rattle.clap.specs.Words.{found_of, one_text}
use Rattle.clap.specs.declared.parser.matches.ArgMatches.{ArgMatches}
use Rattle.run_ends.specs.Ends.{IsNamed}
use Rattle.command_lines.specs.Command.{is_standard, is_asked_there, are_two}
use Rattle.command_lines.specs.Options.{given, IsFlag, IsDash, IsAsking, IsNotAsking}
use Rattle.command_lines.specs.declared.inject_options.BadInject.{BadInject}
use Rattle.command_lines.specs.declared.inject_options.BadInject.TheVariants.{Number, Asking, Input, ListInput, Events}
use Rattle.command_lines.specs.declared.services_options.BadServices.{BadServices}
use Rattle.command_lines.specs.declared.services_options.BadServices.TheVariants as services
use Rattle.command_lines.specs.declared.services_options.ServicesOptions.{ServicesOptions}

-- each option is read by its own name, and at most one input is standard input
pub record IsServicesOf (matches : ArgMatches) (options : ServicesOptions) : Type 0 where
  pub network : IsNamed (given matches (codes "network")) options.network
  pub asking : IsAsking (given matches (codes "script")) (given matches (codes "listen")) options.asking
  pub services : IsNamed (given matches (codes "services")) options.services
  pub output : IsNamed (given matches (codes "out")) options.output
  pub events : IsNamed (given matches (codes "events")) options.events
  pub on_air : IsFlag (one_text (found_of matches) (codes "on-air")) options.is_on_air
  pub quiet : IsFlag (one_text (found_of matches) (codes "quiet")) options.is_quiet
  pub verbose : IsFlag (one_text (found_of matches) (codes "verbose")) options.is_verbose
  pub apart : are_two (is_standard options.network) (is_asked_there options.asking) (is_standard options.services) ≡ false
  pub outputs_apart : (is_standard options.output && is_standard options.events) ≡ false

-- where the messages come from is refused; or the network and the script are standard input both
abbrev pub IsNotAsked : ArgMatches → BadInject → Type 0
IsNotAsked matches (Number bad) = IsNotAsking (given matches (codes "script")) (given matches (codes "listen")) (Number bad)
IsNotAsked matches Asking = IsNotAsking (given matches (codes "script")) (given matches (codes "listen")) Asking
IsNotAsked matches Input = IsDash (given matches (codes "network")) × IsDash (given matches (codes "script"))
IsNotAsked matches ListInput = ⊥
IsNotAsked matches Events = ⊥

-- that; or the list is standard input, and another input is; or both outputs are standard output
abbrev pub IsNoServices : ArgMatches → BadServices → Type 0
IsNoServices matches (services.Asked bad) = IsNotAsked matches bad
IsNoServices matches services.ListInput = IsDash (given matches (codes "services"))
    × (IsDash (given matches (codes "network")) ⊎ IsDash (given matches (codes "script")))
IsNoServices matches services.Events = IsDash (given matches (codes "out")) × IsDash (given matches (codes "events"))
