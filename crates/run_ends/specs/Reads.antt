-- How many reads a reader made, and how many of them failed for good.
use Rattle.std.specs.Prelude.{◌≡◌, ℕ, Bool, true, false, Result, Ok, Err}
use Rattle.std.specs.IoError.{error_kind}
use Rattle.std.specs.declared.io.Error.{Error}
use Rattle.std.specs.declared.io.ErrorKind.{ErrorKind}
use Rattle.std.specs.declared.io.ErrorKind.TheVariants.{Interrupted}
use Rattle.run_ends.specs.declared.reads.Reads.{Reads}
use Rattle.run_ends.specs.Flushes.{IsOneMore}

-- those of a reader that was not read
abbrev pub none_made : Reads
none_made = record { made = 0; failed = 0 }

-- a read that failed so may be made again
abbrev pub is_again : ErrorKind → Bool
is_again Interrupted = true
is_again kind = false

-- ONE MORE WAS MADE, and it did not fail for good
pub record WasMade (old new : Reads) : Type 0 where
  pub made : IsOneMore old.made new.made
  pub failed : new.failed ≡ old.failed

-- one more was made, and it failed for good
pub record HasFailed (old new : Reads) : Type 0 where
  pub made : IsOneMore old.made new.made
  pub failed : IsOneMore old.failed new.failed

-- a read that failed was counted, which may be made again or not
abbrev pub CountsFailure : Bool → Reads → Reads → Type 0
CountsFailure true old new = WasMade old new
CountsFailure false old new = HasFailed old new

-- a read that answered so was counted
abbrev pub CountsCall : Result ℕ Error → Reads → Reads → Type 0
CountsCall (Ok n) old new = WasMade old new
CountsCall (Err error) old new = CountsFailure (is_again (error_kind error)) old new
