-- Which programs and PIDs a configuration takes.
use Rattle.std.specs.Prelude.{ℕ, nat_lt, nat_le, ◌==◌, ◌||◌, if◌then◌else◌, Option, Some, None}
use Rattle.psi_tables.specs.declared.config.BadConfig.{BadConfig}
use Rattle.psi_tables.specs.declared.config.BadConfig.TheVariants.{Program, CuePid}

-- number 0 is no program's; PIDs below 16 are reserved, and 8191 is that of null packets (ISO/IEC 13818-1, 2.4.3.3)
abbrev pub config_fault : ℕ → ℕ → Option BadConfig
config_fault program cue_pid = if program == 0 then Some Program else (if nat_lt cue_pid 16 || nat_le 8191 cue_pid then Some CuePid else None)
