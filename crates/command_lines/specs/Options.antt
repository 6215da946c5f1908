-- What the options of a command line say: each is read by its own name, and a number in its range.
use Rattle.std.specs.Prelude.{◌≡◌, ℕ, ◌^◌, List, [], Bool, true, false, ◌&&◌, Option, Some, None, is_some, IsSome}
use Rattle.std.specs.Prelude.{option_and_then, unwrap_or, codes, ◌⊎◌}
use Rattle.clap.specs.Words.{found_of, first_value, one_text}
use Rattle.clap.specs.declared.parser.matches.ArgMatches.{ArgMatches}
use Rattle.decimal_numbers.specs.Numbers.{number_below, number_within}
use Rattle.run_ends.specs.declared.ends.End.{End}
use Rattle.run_ends.specs.Ends.{IsNamed}
use Rattle.command_lines.specs.Command.{IsRefused, IsRefusedOf, IsRefusedOfSplice, shown, shown_of, is_standard, is_asked_there, is_listed_there, are_two}
use Rattle.command_lines.specs.declared.command.BadNumber.{BadNumber}
use Rattle.command_lines.specs.declared.command.CutOptions.{CutOptions}
use Rattle.command_lines.specs.declared.command.NumberOption.TheVariants as number
use Rattle.command_lines.specs.declared.inject_options.Asking.{Asking as Asked}
use Rattle.command_lines.specs.declared.inject_options.Asking.TheVariants as asking
use Rattle.command_lines.specs.declared.inject_options.BadInject.{BadInject}
use Rattle.command_lines.specs.declared.inject_options.BadInject.TheVariants.{Number, Asking, Input, ListInput, Events}
use Rattle.command_lines.specs.declared.inject_options.InjectOptions.{InjectOptions}
use Rattle.command_lines.specs.declared.splice_options.BadSplice.{BadSplice}
use Rattle.command_lines.specs.declared.splice_options.BadSplice.TheVariants as splice
use Rattle.command_lines.specs.declared.splice_options.SpliceOptions.{SpliceOptions}

-- the text that was given for the option of this name
abbrev pub given : ArgMatches → List ℕ → Option (List ℕ)
given matches name = first_value (found_of matches) name

-- likewise, and empty where none was given
abbrev pub text_of : ArgMatches → List ℕ → List ℕ
text_of matches name = unwrap_or (given matches name) []

-- the flag of this name: a parse gives it one of two texts
abbrev pub IsFlag : Option (List ℕ) → Bool → Type 0
IsFlag None flag = flag ≡ false
IsFlag (Some text) flag = (text ≡ codes "true" → flag ≡ true) × (text ≡ codes "false" → flag ≡ false)

-- ---- where the messages come from

-- a script is given and no port, and the end is what it names; or a port and no script, and it is the port's number
abbrev pub IsAsking : Option (List ℕ) → Option (List ℕ) → Asked → Type 0
IsAsking script listen (asking.Script end) = IsSome script × (listen ≡ None) × IsNamed script end
IsAsking script listen (asking.Port port) =
    (script ≡ None) × (option_and_then (λ text. number_within text 1 (2 ^ 16)) listen ≡ Some port)

-- both or none are given; or a port alone, whose text is no number from 1 to 65535
abbrev pub IsNotAsking : Option (List ℕ) → Option (List ℕ) → BadInject → Type 0
IsNotAsking script listen (Number bad) = (script ≡ None) × (bad.option ≡ number.Port) × (listen ≡ Some bad.text.now)
    × (number_within bad.text.now 1 (2 ^ 16) ≡ None)
IsNotAsking script listen Asking = is_some script ≡ is_some listen
IsNotAsking script listen Input = ⊥
IsNotAsking script listen ListInput = ⊥
IsNotAsking script listen Events = ⊥

-- ---- what the subcommands are to do

pub record IsCutOf (matches : ArgMatches) (options : CutOptions) : Type 0 where
  pub pid : number_below (text_of matches (codes "pid")) 8192 ≡ Some options.pid
  pub from : number_below (text_of matches (codes "from")) (2 ^ 33) ≡ Some options.from
  pub length : number_below (text_of matches (codes "length")) (2 ^ 32) ≡ Some options.length
  pub input : IsNamed (given matches (codes "in")) options.input
  pub output : IsNamed (given matches (codes "out")) options.output
  pub verbose : IsFlag (one_text (found_of matches) (codes "verbose")) options.is_verbose

pub record IsInjectOf (matches : ArgMatches) (adverts : Option End) (options : InjectOptions) : Type 0 where
  pub program : number_within (text_of matches (codes "program")) 1 (2 ^ 16) ≡ Some options.config.program
  pub cue_pid : number_within (text_of matches (codes "cue-pid")) 16 8191 ≡ Some options.config.cue_pid
  pub index : number_below (text_of matches (codes "index")) (2 ^ 16) ≡ Some options.config.index
  pub network : IsNamed (given matches (codes "network")) options.network
  pub asking : IsAsking (given matches (codes "script")) (given matches (codes "listen")) options.asking
  pub adverts_are : options.adverts ≡ adverts
  pub output : IsNamed (given matches (codes "out")) options.output
  pub events : IsNamed (given matches (codes "events")) options.events
  pub on_air : IsFlag (one_text (found_of matches) (codes "on-air")) options.is_on_air
  pub quiet : IsFlag (one_text (found_of matches) (codes "quiet")) options.is_quiet
  pub verbose : IsFlag (one_text (found_of matches) (codes "verbose")) options.is_verbose
  pub apart : are_two (is_standard options.network) (is_asked_there options.asking) (is_listed_there options.adverts) ≡ false
  pub outputs_apart : (is_standard options.output && is_standard options.events) ≡ false

-- likewise, and the list is the one that is named
abbrev pub IsRunOf : ArgMatches → InjectOptions → Type 0
IsRunOf matches options =
    (list : End) × IsNamed (given matches (codes "adverts")) list × IsInjectOf matches (Some list) options

pub record IsSpliceOf (matches : ArgMatches) (options : SpliceOptions) : Type 0 where
  pub program : number_within (text_of matches (codes "program")) 1 (2 ^ 16) ≡ Some options.config.program
  pub cue_pid : number_within (text_of matches (codes "cue-pid")) 16 8191 ≡ Some options.config.cue_pid
  pub index : options.config.index ≡ 0
  pub network : IsNamed (given matches (codes "network")) options.network
  pub adverts : IsNamed (given matches (codes "adverts")) options.adverts
  pub output : IsNamed (given matches (codes "out")) options.output
  pub events : IsNamed (given matches (codes "events")) options.events
  pub on_air : IsFlag (one_text (found_of matches) (codes "on-air")) options.is_on_air
  pub quiet : IsFlag (one_text (found_of matches) (codes "quiet")) options.is_quiet
  pub verbose : IsFlag (one_text (found_of matches) (codes "verbose")) options.is_verbose
  pub apart : (is_standard options.network && is_standard options.adverts) ≡ false
  pub outputs_apart : (is_standard options.output && is_standard options.events) ≡ false

-- ---- why they are not taken

-- the first number that is none in its range is named, with its text
abbrev pub IsNoCut : ArgMatches → BadNumber → Type 0
IsNoCut matches bad =
    IsRefused bad.option (text_of matches (codes "pid")) (text_of matches (codes "from")) (text_of matches (codes "length"))
    × (bad.text.now
    ≡ shown bad.option (text_of matches (codes "pid")) (text_of matches (codes "from")) (text_of matches (codes "length")))

-- the end of this text is bytes on the standard stream
abbrev pub IsDash : Option (List ℕ) → Type 0
IsDash text = text ≡ Some (codes "-")

-- the option is the first of these that is no number in its range, and its text is shown
abbrev pub IsBadOf : BadNumber → List ℕ → List ℕ → List ℕ → Type 0
IsBadOf bad program cue_pid index =
    IsRefusedOf bad.option program cue_pid index × (bad.text.now ≡ shown_of bad.option program cue_pid index)

-- a number, or where the messages come from; or two of the network, the script and the list are standard input; or what goes out and what is
-- written of what happens are standard output both
abbrev pub IsNoInject : ArgMatches → Option End → BadInject → Type 0
IsNoInject matches adverts (Number bad) =
    IsBadOf bad (text_of matches (codes "program")) (text_of matches (codes "cue-pid")) (text_of matches (codes "index"))
    ⊎ IsNotAsking (given matches (codes "script")) (given matches (codes "listen")) (Number bad)
IsNoInject matches adverts Asking =
    IsNotAsking (given matches (codes "script")) (given matches (codes "listen")) Asking
IsNoInject matches adverts Input = IsDash (given matches (codes "network")) × IsDash (given matches (codes "script"))
IsNoInject matches adverts ListInput = (is_listed_there adverts ≡ true)
    × (IsDash (given matches (codes "network")) ⊎ IsDash (given matches (codes "script")))
IsNoInject matches adverts Events = IsDash (given matches (codes "out")) × IsDash (given matches (codes "events"))

-- likewise, with the list that is named
abbrev pub IsNoRun : ArgMatches → BadInject → Type 0
IsNoRun matches bad =
    (list : End) × IsNamed (given matches (codes "adverts")) list × IsNoInject matches (Some list) bad

-- a number, or the network and the list are standard input both; or both outputs are standard output
abbrev pub IsNoSplice : ArgMatches → BadSplice → Type 0
IsNoSplice matches (splice.Number bad) =
    IsRefusedOfSplice bad.option (text_of matches (codes "program")) (text_of matches (codes "cue-pid"))
    × (bad.text.now ≡ shown_of bad.option (text_of matches (codes "program")) (text_of matches (codes "cue-pid")) [])
IsNoSplice matches splice.Input = IsDash (given matches (codes "network")) × IsDash (given matches (codes "adverts"))
IsNoSplice matches splice.Events = IsDash (given matches (codes "out")) × IsDash (given matches (codes "events"))
