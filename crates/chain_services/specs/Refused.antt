-- Which configurations services are refused for, by the first reason.
use Rattle.std.specs.Prelude.{◌≡◌, ◌==◌, ◌||◌, nat_lt, Bool, false, if◌then◌else◌, List, [], ◌∷◌, length, Option, None, Some}
use Rattle.std.specs.List.{list_any}
use Rattle.psi_tables.specs.declared.config.Config.{Config}
use Rattle.service_laws.specs.Messages.{share_an_index}
use Rattle.chain_services.specs.declared.fault.ServiceFault.{ServiceFault}
use Rattle.chain_services.specs.declared.fault.ServiceFault.TheVariants.{NoService, Many, SharedIndex, SharedProgram, SharedCue, OutOfMemory}

abbrev pub share_a_program : List Config → Bool
share_a_program [] = false
share_a_program (c ∷ more) = list_any (λ (d : Config). c.program == d.program) more || share_a_program more

abbrev pub share_a_cue_pid : List Config → Bool
share_a_cue_pid [] = false
share_a_cue_pid (c ∷ more) = list_any (λ (d : Config). c.cue_pid == d.cue_pid) more || share_a_cue_pid more

abbrev pub services_refused : List Config → Option ServiceFault
services_refused [] = Some NoService
services_refused (c ∷ more) =
    if nat_lt 8 (length (c ∷ more)) then Some Many
    else (if share_an_index (c ∷ more) then Some SharedIndex
    else (if share_a_program (c ∷ more) then Some SharedProgram
    else (if share_a_cue_pid (c ∷ more) then Some SharedCue
    else None)))

-- the fault is the first reason; or memory was refused, where there is none
abbrev pub IsRefused : List Config → ServiceFault → Type 0
IsRefused cs NoService = services_refused cs ≡ Some NoService
IsRefused cs Many = services_refused cs ≡ Some Many
IsRefused cs SharedIndex = services_refused cs ≡ Some SharedIndex
IsRefused cs SharedProgram = services_refused cs ≡ Some SharedProgram
IsRefused cs SharedCue = services_refused cs ≡ Some SharedCue
IsRefused cs OutOfMemory = services_refused cs ≡ None
