-- What devices count, and what a transfer in several calls comes to.
use Rattle.std.specs.Prelude.{◌≡◌, ℕ, ◌+◌, ◌-◌, ◌^◌, ◌<◌, ◌≤◌, ◌⊎◌, Bool, true, false, List, length, take, nat_eq, Option, Result, Ok, Err}
use Rattle.std.specs.Io.KnownBytes.{Consumes, IsAtEnd}
use Rattle.ts_packet.specs.declared.tally.Tally.{Tally}
use Rattle.ts_packet.specs.declared.device.DeviceFault.{DeviceFault}
use Rattle.ts_packet.specs.declared.device.DeviceFault.TheVariants.{Interrupted, Failed}
use Rattle.ts_packet.specs.declared.transfer.FillFault.{FillFault}
use Rattle.ts_packet.specs.declared.transfer.FillFault.TheVariants.{Io, Turns}

-- the counts of a device that was not called, and of a sink with no device
abbrev pub no_tally : Tally
no_tally = record { calls = 0; failed = 0; zeros = 0; halted = false }

-- ---- one call

-- a count after one more, which stops at the greatest u64
abbrev pub IsCounted : ℕ → ℕ → Type 0
IsCounted old new = (old < 2 ^ 64 - 1 → new ≡ old + 1) × (2 ^ 64 - 1 ≤ old → new ≡ old)

-- a count rose by n at least, or stands at the greatest u64
abbrev pub Rose : ℕ → ℕ → ℕ → Type 0
Rose n old new = (old + n ≤ new) ⊎ (2 ^ 64 - 1 ≤ new)

-- failures are counted, and nothing else is
abbrev pub CountsFailure : Result ℕ DeviceFault → ℕ → ℕ → Type 0
CountsFailure (Ok n) old new = new ≡ old
CountsFailure (Err Interrupted) old new = new ≡ old
CountsFailure (Err Failed) old new = IsCounted old new

-- calls that moved no byte are counted, and nothing else is
abbrev pub CountsZero : Result ℕ DeviceFault → ℕ → ℕ → Type 0
CountsZero (Ok n) old new = (n ≡ 0 → IsCounted old new) × (0 < n → new ≡ old)
CountsZero (Err f) old new = new ≡ old

-- it failed or moved no byte
abbrev pub halts : Result ℕ DeviceFault → Bool
halts (Ok n) = nat_eq n 0
halts (Err Interrupted) = false
halts (Err Failed) = true

-- ---- several calls

-- none failed, and each moved a byte or was interrupted
pub record WentWell (old new : Tally) : Type 0 where
  pub calls : old.calls ≤ new.calls
  pub failed : new.failed ≡ old.failed
  pub zeros : new.zeros ≡ old.zeros

-- so but for the last, which moved no byte
pub record LastMovedNone (old new : Tally) : Type 0 where
  pub calls : old.calls ≤ new.calls
  pub failed : new.failed ≡ old.failed
  pub zeros : IsCounted old.zeros new.zeros
  pub halted : new.halted ≡ true

-- no call failed: all moved bytes, or all but the last, which moved none
abbrev pub NoneFailed : Tally → Tally → Type 0
NoneFailed old new = WentWell old new ⊎ LastMovedNone old new

-- all went well but the last, which failed
pub record LastFailed (old new : Tally) : Type 0 where
  pub calls : old.calls ≤ new.calls
  pub failed : IsCounted old.failed new.failed
  pub zeros : new.zeros ≡ old.zeros
  pub halted : new.halted ≡ true

-- all went well, and there were as many as may be
pub record TookTurns (n : ℕ) (old new : Tally) : Type 0 where
  pub well : WentWell old new
  pub turns : Rose n old.calls new.calls

-- What the calls of a read into this room came to: fewer bytes than there is room for are given only where the last call, and no
-- other, found the end.
abbrev pub FillCounts : ℕ → Result ℕ FillFault → Tally → Tally → Type 0
FillCounts room (Ok n) old new = (n < room → LastMovedNone old new) × (n ≡ room → WentWell old new)
FillCounts room (Err Io) old new = LastFailed old new
FillCounts room (Err Turns) old new = TookTurns (2 ^ 20) old new

-- what a read in several calls gave: these bytes, and fewer than there is room for only at the end
pub record Filled (old new : Option (List ℕ)) (buf : List ℕ) (n : ℕ) : Type 0 where
  pub fits : n ≤ length buf
  pub bytes : Consumes old new (take n buf)
  pub end : n < length buf → IsAtEnd new

-- bytes were read, but not as many
abbrev pub FallsShort : ℕ → Option (List ℕ) → Option (List ℕ) → Type 0
FallsShort room old new = (bs : List ℕ) × Consumes old new bs × (length bs < room)
