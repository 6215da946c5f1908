-- What the options of `inspect` say, and why they are not taken.
use Rattle.std.specs.Prelude.{◌≡◌, ℕ, ◌^◌, List, Option, Some, None, codes, unwrap_or}
use Rattle.clap.specs.Words.{found_of, one_text}
use Rattle.clap.specs.declared.parser.matches.ArgMatches.{ArgMatches}
use Rattle.decimal_numbers.specs.Numbers.{number_within}
use Rattle.run_ends.specs.Ends.{IsNamed}
use Rattle.command_lines.specs.Options.{given, IsFlag}
use Rattle.command_lines.specs.declared.command.BadNumber.{BadNumber}
use Rattle.command_lines.specs.declared.command.NumberOption.TheVariants as number
use Rattle.command_lines.specs.declared.inspect_options.InspectOptions.{InspectOptions}

-- the program that alone is told: none, where no text is given, and else the number that it is
abbrev pub IsWanted : Option (List ℕ) → Option ℕ → Type 0
IsWanted None wanted = wanted ≡ None
IsWanted (Some text) wanted = wanted ≡ number_within text 1 (2 ^ 16)

-- the text is no number from 1 to 65535, and is shown
abbrev pub IsNotWanted : Option (List ℕ) → BadNumber → Type 0
IsNotWanted text bad = (bad.option ≡ number.Program) × (text ≡ Some bad.text.now) × (number_within bad.text.now 1 (2 ^ 16) ≡ None)

-- each option is read by its own name; without `--in` standard input is read
pub record IsInspectOf (matches : ArgMatches) (options : InspectOptions) : Type 0 where
  pub input : IsNamed (Some (unwrap_or (given matches (codes "in")) (codes "-"))) options.input
  pub program : IsWanted (given matches (codes "program")) options.program
  pub points : IsFlag (one_text (found_of matches) (codes "points")) options.has_points
  pub json : IsFlag (one_text (found_of matches) (codes "json")) options.is_json
  pub verbose : IsFlag (one_text (found_of matches) (codes "verbose")) options.is_verbose

abbrev pub IsNoInspect : ArgMatches → BadNumber → Type 0
IsNoInspect matches bad = IsNotWanted (given matches (codes "program")) bad
