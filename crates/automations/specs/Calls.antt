-- What became of the calls of an automation's devices.
use Rattle.std.specs.Prelude.{◌≡◌, ◌⊎◌, ℕ, ◌<◌, Bool, true, false, Result, Ok, Err}
use Rattle.std.specs.IoError.{error_kind}
use Rattle.std.specs.declared.io.Error.{Error}
use Rattle.std.specs.declared.io.ErrorKind.{ErrorKind}
use Rattle.std.specs.declared.io.ErrorKind.TheVariants.{WouldBlock, TimedOut, Interrupted}
use Rattle.ts_packet.specs.Transfers.{IsCounted, Rose}
use Rattle.automations.specs.declared.calls.ReadCounts.{ReadCounts}
use Rattle.automations.specs.declared.calls.WriteCounts.{WriteCounts}

-- a call that failed so found nothing, and may be made again
abbrev pub found_nothing : ErrorKind → Bool
found_nothing WouldBlock = true
found_nothing TimedOut = true
found_nothing Interrupted = true
found_nothing kind = false

-- a write that failed so may be made again at once
abbrev pub was_interrupted : ErrorKind → Bool
was_interrupted Interrupted = true
was_interrupted kind = false

-- ---- reads

abbrev pub no_reads : ReadCounts
no_reads = record { made = 0; ended = 0; idle = 0; failed = 0 }

-- ONE MORE READ gave bytes, or none, as the reader has ended
pub record HasRead (n : ℕ) (old new : ReadCounts) : Type 0 where
  pub made : IsCounted old.made new.made
  pub ended : n ≡ 0 → IsCounted old.ended new.ended
  pub some : 0 < n → new.ended ≡ old.ended
  pub idle : new.idle ≡ old.idle
  pub failed : new.failed ≡ old.failed

-- one more found nothing
pub record FoundNothing (old new : ReadCounts) : Type 0 where
  pub made : IsCounted old.made new.made
  pub ended : new.ended ≡ old.ended
  pub idle : IsCounted old.idle new.idle
  pub failed : new.failed ≡ old.failed

-- one more failed for good
pub record FailedToRead (old new : ReadCounts) : Type 0 where
  pub made : IsCounted old.made new.made
  pub ended : new.ended ≡ old.ended
  pub idle : new.idle ≡ old.idle
  pub failed : IsCounted old.failed new.failed

-- a read that failed was counted, which found nothing, or failed for good
abbrev pub CountsFailedRead : Bool → ReadCounts → ReadCounts → Type 0
CountsFailedRead true old new = FoundNothing old new
CountsFailedRead false old new = FailedToRead old new

-- a read that answered so was counted
abbrev pub CountsRead : Result ℕ Error → ReadCounts → ReadCounts → Type 0
CountsRead (Ok n) old new = HasRead n old new
CountsRead (Err error) old new = CountsFailedRead (found_nothing (error_kind error)) old new

-- ---- writes

abbrev pub no_writes : WriteCounts
no_writes = record { writes = 0; flushed = 0; failed = 0 }

-- A WRITE of a part took so many bytes; where it took none it failed
pub record HasWritten (n : ℕ) (old new : WriteCounts) : Type 0 where
  pub writes : IsCounted old.writes new.writes
  pub flushed : new.flushed ≡ old.flushed
  pub none : n ≡ 0 → IsCounted old.failed new.failed
  pub some : 0 < n → new.failed ≡ old.failed

-- a write of a part did not take any, and failed, but where it may be made again
pub record MissedWrite (again : Bool) (old new : WriteCounts) : Type 0 where
  pub writes : IsCounted old.writes new.writes
  pub flushed : new.flushed ≡ old.flushed
  pub failed : again ≡ false → IsCounted old.failed new.failed
  pub again_so : again ≡ true → new.failed ≡ old.failed

-- a write of a part that answered so was counted
abbrev pub CountsWrite : Result ℕ Error → WriteCounts → WriteCounts → Type 0
CountsWrite (Ok n) old new = HasWritten n old new
CountsWrite (Err error) old new = MissedWrite (was_interrupted (error_kind error)) old new

-- nothing that is counted became of it, but one failure
pub record OneFailed (old new : WriteCounts) : Type 0 where
  pub writes : new.writes ≡ old.writes
  pub flushed : new.flushed ≡ old.flushed
  pub failed : IsCounted old.failed new.failed

-- a write of all that answered so was counted
abbrev pub CountsWhole : {T : Type 0} → Result T Error → WriteCounts → WriteCounts → Type 0
CountsWhole (Ok x) old new = new ≡ old
CountsWhole (Err error) old new = OneFailed old new

-- one flush went well
pub record OneFlushed (old new : WriteCounts) : Type 0 where
  pub writes : new.writes ≡ old.writes
  pub flushed : IsCounted old.flushed new.flushed
  pub failed : new.failed ≡ old.failed

-- a flush that answered so was counted
abbrev pub CountsFlush : {T : Type 0} → Result T Error → WriteCounts → WriteCounts → Type 0
CountsFlush (Ok x) old new = OneFlushed old new
CountsFlush (Err error) old new = OneFailed old new

-- A REPLY WAS LOST: a write or a flush failed, or 64 writes did not take all of it
abbrev pub LosesReply : WriteCounts → WriteCounts → Type 0
LosesReply old new = Rose 1 old.failed new.failed ⊎ Rose 64 old.writes new.writes
