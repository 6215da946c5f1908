-- The ends of a run, as options name them.
use Rattle.std.specs.Prelude.{◌≡◌, ◌≢◌, ℕ, List, Option, None, Some, codes}
use Rattle.std.specs.Borrow.{Bor}
use Rattle.std.specs.Fs.{IsFile, file_type}
use Rattle.std.specs.declared.fs.attrs.Metadata.{Metadata}
use Rattle.run_ends.specs.declared.ends.End.{End}
use Rattle.run_ends.specs.declared.ends.End.TheVariants.{Lines, Standard, File}

-- the option with this text names the end: none is lines, `-` is bytes on the standard stream, and any other is a path
abbrev pub IsNamed : Option (List ℕ) → End → Type 0
IsNamed text Lines = text ≡ None
IsNamed text Standard = text ≡ Some (codes "-")
IsNamed text (File path) = (text ≡ Some path.now) × (path.now ≢ codes "-")

-- the path, where the end is a file
abbrev pub path_of : End → Option (List ℕ)
path_of Lines = None
path_of Standard = None
path_of (File path) = Some path.now

-- what an end is called: its path, or this
abbrev pub name_of : List ℕ → End → List ℕ
name_of standard Lines = standard
name_of standard Standard = standard
name_of standard (File path) = path.now

-- there is one, and it is an ordinary file
abbrev pub IsOrdinary : Option (Bor Metadata) → Type 0
IsOrdinary None = ⊥
IsOrdinary (Some about) = IsFile (file_type about.now)
