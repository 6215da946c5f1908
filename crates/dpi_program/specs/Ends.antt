-- The files that were opened for the ends of a run, by the paths that its options name.
use Rattle.std.specs.Prelude.{◌≡◌, ℕ, List, Option, None, Some, IfSome, IsSomeAnd}
use Rattle.std.specs.declared.fs.attrs.Metadata.{Metadata}
use Rattle.run_ends.specs.declared.ends.End.{End}
use Rattle.run_ends.specs.declared.ends.End.TheVariants as end
use Rattle.run_ends.specs.Ends.{path_of}
use Rattle.dpi_program.specs.declared.ends.LinesEnd.{LinesEnd}
use Rattle.dpi_program.specs.declared.ends.LinesEnd.TheVariants as lines

-- the file was opened by the path that the end names, and the system described it so; there is none where the end is a standard stream. `reads`
-- says of a path, a file and its description that it was opened so.
abbrev pub IsOpened : {F : Type 0} → (List ℕ → F → Metadata → Type 0) → End → Option F → Option Metadata → Type 0
IsOpened reads at None about = (path_of at ≡ None) × (about ≡ None)
IsOpened reads at (Some file) None = ⊥
IsOpened reads at (Some file) (Some about) = IsSomeAnd (path_of at) (λ path. reads path file about)

-- the file was made by the path that the end names, beside those that are described so
abbrev pub IsMade : {F : Type 0} → (List ℕ → List (Option Metadata) → F → Type 0) → End → List (Option Metadata) → F → Type 0
IsMade makes at others file = IfSome (path_of at) (λ path. makes path others file)

-- and so was that of a log, where it goes to one; it goes to the standard stream where the end is that, and nowhere where no end is named
abbrev pub IsLogMade : {F W : Type 0} → (List ℕ → List (Option Metadata) → F → Type 0) → End → List (Option Metadata)
    → Option (LinesEnd F W) → Type 0
IsLogMade makes at others None = at ≡ end.Lines
IsLogMade makes at others (Some (lines.File file)) = IsSomeAnd (path_of at) (λ path. makes path others file)
IsLogMade makes at others (Some (lines.Standard stream)) = at ≡ end.Standard
