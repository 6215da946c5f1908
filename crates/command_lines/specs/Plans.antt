-- What the options of `plan` say.
use Rattle.std.specs.Prelude.{◌≡◌, ℕ, ◌^◌, false, Some, None, codes, ◌⊎◌}
use Rattle.clap.specs.declared.parser.matches.ArgMatches.{ArgMatches}
use Rattle.decimal_numbers.specs.Numbers.{number_below, number_within}
use Rattle.run_ends.specs.Ends.{IsNamed}
use Rattle.command_lines.specs.Command.{is_standard, are_two}
use Rattle.command_lines.specs.Options.{given, text_of, IsDash}
use Rattle.command_lines.specs.declared.command.BadNumber.{BadNumber}
use Rattle.command_lines.specs.declared.command.NumberOption.{NumberOption}
use Rattle.command_lines.specs.declared.command.NumberOption.TheVariants as number
use Rattle.command_lines.specs.declared.plan_options.BadPlan.{BadPlan}
use Rattle.command_lines.specs.declared.plan_options.BadPlan.TheVariants.{Number, Inputs, Script}
use Rattle.command_lines.specs.declared.plan_options.PlanOptions.{PlanOptions}

-- each option is read by its own name, at most one input is standard input, and the script is not standard output
pub record IsPlanOf (matches : ArgMatches) (options : PlanOptions) : Type 0 where
  pub program : number_within (text_of matches (codes "program")) 1 (2 ^ 16) ≡ Some options.program
  pub index : number_below (text_of matches (codes "index")) (2 ^ 16) ≡ Some options.index
  pub network : IsNamed (given matches (codes "network")) options.network
  pub adverts : IsNamed (given matches (codes "adverts")) options.adverts
  pub breaks : IsNamed (given matches (codes "breaks")) options.breaks
  pub script : IsNamed (given matches (codes "script")) options.script
  pub apart : are_two (is_standard options.network) (is_standard options.adverts) (is_standard options.breaks) ≡ false
  pub file : is_standard options.script ≡ false

-- the first number that is none in its range is named, with its text
abbrev pub IsNoNumber : ArgMatches → BadNumber → Type 0
IsNoNumber matches bad =
    ((bad.option ≡ number.Program) × (bad.text.now ≡ text_of matches (codes "program"))
    × (number_within (text_of matches (codes "program")) 1 (2 ^ 16) ≡ None))
    ⊎ ((bad.option ≡ number.Index) × (bad.text.now ≡ text_of matches (codes "index"))
    × (number_below (text_of matches (codes "index")) (2 ^ 16) ≡ None))

-- that; or two inputs are standard input; or the script is standard output
abbrev pub IsNoPlan : ArgMatches → BadPlan → Type 0
IsNoPlan matches (Number bad) = IsNoNumber matches bad
IsNoPlan matches Inputs = (IsDash (given matches (codes "network")) × IsDash (given matches (codes "adverts")))
    ⊎ (IsDash (given matches (codes "breaks")) × (IsDash (given matches (codes "network")) ⊎ IsDash (given matches (codes "adverts"))))
IsNoPlan matches Script = IsDash (given matches (codes "script"))
