-- What was opened and loaded for a run, by what the options name. `reads` says of a path, a file and its description that it was opened so,
-- `remaining` what the bytes of a file are, where they are known, and `standard` are those of standard input.
use Rattle.std.specs.Prelude.{◌≡◌, ℕ, List, Option, None, Some, IfSome, IsSome}
use Rattle.std.specs.declared.fs.attrs.Metadata.{Metadata}
use Rattle.run_ends.specs.declared.ends.End.{End}
use Rattle.run_ends.specs.Ends.{path_of}
use Rattle.ad_library.specs.declared.library.AdLibrary.{AdLibrary}
use Rattle.ad_lists.specs.Lists.{IsListed}
use Rattle.service_lists.specs.Lists.{AreListed}
use Rattle.service_lists.specs.declared.services.ServiceList.{ServiceList}
use Rattle.automations.specs.ScriptReading.{IsLoaded}
use Rattle.passages.specs.declared.asking.Asker.{Asker}
use Rattle.passages.specs.declared.asking.Asker.TheVariants as asker
use Rattle.command_lines.specs.declared.inject_options.Asking.{Asking}
use Rattle.command_lines.specs.declared.inject_options.Asking.TheVariants as asking
use Rattle.command_lines.specs.declared.inject_options.InjectOptions.{InjectOptions}
use Rattle.command_lines.specs.declared.services_options.ServicesOptions.{ServicesOptions}
use Rattle.command_lines.specs.declared.splice_options.SpliceOptions.{SpliceOptions}
use Rattle.dpi_program.specs.Runs.{known_from}
use Rattle.dpi_program.specs.Ends.{IsOpened}
use Rattle.dpi_program.specs.declared.splicing.SpliceInputs.{SpliceInputs}
use Rattle.dpi_program.specs.declared.injecting.InjectInputs.{InjectInputs}
use Rattle.dpi_program.specs.declared.serving.ServiceInputs.{ServiceInputs}

-- ---- lists of advertisements

-- the library has what a list says whose bytes, where they are known, are these
abbrev pub IsLibraryOf : {A : Type 0} → AdLibrary A → Option (List ℕ) → Type 0
IsLibraryOf library known = (text : List ℕ) × IfSome known (λ bs. bs ≡ text) × IsListed library text

-- likewise, and the list is that of the end that was named
abbrev pub IsLibraryAt : {A F : Type 0} → (List ℕ → F → Metadata → Type 0) → (F → Option (List ℕ)) → End → Option (List ℕ)
    → AdLibrary A → Option Metadata → Type 0
IsLibraryAt {F = F} reads remaining list standard library about =
    (file : Option F) × IsOpened reads list file about × IsLibraryOf library (known_from remaining file standard)

-- there is a library where a list was named, and then it is that
abbrev pub IsLibraryIfAsked : {A F : Type 0} → (List ℕ → F → Metadata → Type 0) → (F → Option (List ℕ)) → Option End → Option (List ℕ)
    → Option (AdLibrary A) → Option Metadata → Type 0
IsLibraryIfAsked reads remaining None standard None about = about ≡ None
IsLibraryIfAsked reads remaining None standard (Some library) about = ⊥
IsLibraryIfAsked reads remaining (Some list) standard None about = ⊥
IsLibraryIfAsked reads remaining (Some list) standard (Some library) about = IsLibraryAt reads remaining list standard library about

-- ---- automations

-- the messages come from a script that was loaded from the end that was named, or from a port where that was
abbrev pub IsAskerAt : {F W L : Type 0} → (List ℕ → F → Metadata → Type 0) → (F → Option (List ℕ)) → Asking → Option (List ℕ)
    → Asker W L → Option Metadata → Type 0
IsAskerAt {F = F} reads remaining (asking.Script end) standard (asker.Script script) about =
    (file : Option F) × IsOpened reads end file about × IsLoaded script (known_from remaining file standard)
IsAskerAt reads remaining (asking.Script end) standard (asker.Port listener) about = ⊥
IsAskerAt reads remaining (asking.Port port) standard (asker.Script script) about = ⊥
IsAskerAt reads remaining (asking.Port port) standard (asker.Port listener) about = about ≡ None

-- not from standard input
abbrev pub AsksElsewhere : Asking → Type 0
AsksElsewhere (asking.Script end) = IsSome (path_of end)
AsksElsewhere (asking.Port port) = Unit {0}

-- ---- services

-- the services are those that a list says whose bytes, where they are known, are these
abbrev pub AreServicesOf : {M : Type 0} → ServiceList M → Option (List ℕ) → Type 0
AreServicesOf services known = (text : List ℕ) × IfSome known (λ bs. bs ≡ text) × AreListed services.configs.items services.libraries.items text

-- likewise, and the list is that of the end that was named
abbrev pub AreServicesAt : {M F : Type 0} → (List ℕ → F → Metadata → Type 0) → (F → Option (List ℕ)) → End → Option (List ℕ)
    → ServiceList M → Option Metadata → Type 0
AreServicesAt {F = F} reads remaining list standard services about = (file : Option F) × IsOpened reads list file about
    × AreServicesOf services (known_from remaining file standard)

-- ---- all that a run is opened with

-- Of `splice`: the network was opened, and the list was loaded; `left` is what standard input gives behind the list, which is read from it
-- where it is no file.
pub record AreSpliceInputs {F : Type 0} (reads : List ℕ → F → Metadata → Type 0) (remaining : F → Option (List ℕ)) (options : SpliceOptions)
    (standard left : Option (List ℕ)) (opened : SpliceInputs F) : Type 0 where
  pub network : IsOpened reads options.network opened.network.file opened.network.about
  pub library : IsLibraryAt reads remaining options.adverts standard opened.library opened.list
  pub unread : IsSome (path_of options.adverts) → left ≡ standard

-- Of `inject` and `run`, likewise with the messages, behind which the list is read where both come from standard input.
pub record AreInjectInputs {F W L : Type 0} (reads : List ℕ → F → Metadata → Type 0) (remaining : F → Option (List ℕ)) (options : InjectOptions)
    (standard left : Option (List ℕ)) (opened : InjectInputs F W L) : Type 0 where
  pub network : IsOpened reads options.network opened.network.file opened.network.about
  pub asker : IsAskerAt reads remaining options.asking standard opened.asker opened.script
  pub behind : Option (List ℕ)
  pub unasked : AsksElsewhere options.asking → behind ≡ standard
  pub library : IsLibraryIfAsked reads remaining options.adverts behind opened.library opened.list
  pub unread : IfSome options.adverts (λ list. IsSome (path_of list)) → left ≡ behind

-- Of `services`, likewise.
pub record AreServiceInputs {F W L : Type 0} (reads : List ℕ → F → Metadata → Type 0) (remaining : F → Option (List ℕ))
    (options : ServicesOptions) (standard left : Option (List ℕ)) (opened : ServiceInputs F W L) : Type 0 where
  pub network : IsOpened reads options.network opened.network.file opened.network.about
  pub asker : IsAskerAt reads remaining options.asking standard opened.asker opened.script
  pub behind : Option (List ℕ)
  pub unasked : AsksElsewhere options.asking → behind ≡ standard
  pub list : AreServicesAt reads remaining options.services behind opened.list opened.listed
  pub unread : IsSome (path_of options.services) → left ≡ behind
