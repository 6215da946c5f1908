-- How a writer was flushed, as the answer of its last flush tells, and how often.
use Rattle.std.specs.Prelude.{◌≡◌, ℕ, ◌+◌, ◌-◌, ◌^◌, ◌<◌, ◌≤◌, Bool, true, false, Result, Ok, Err}
use Rattle.run_ends.specs.declared.attended.LastFlush.{LastFlush}
use Rattle.run_ends.specs.declared.attended.LastFlush.TheVariants.{Due, Done, Failed}
use Rattle.run_ends.specs.declared.flushes.Flushes.{Flushes}

-- how a flush went that answered so
abbrev pub flush_told : {T E : Type 0} → Result T E → LastFlush
flush_told (Ok x) = Done
flush_told (Err error) = Failed

-- a flush went well, and nothing was written behind it
abbrev pub is_done : LastFlush → Bool
is_done Due = false
is_done Done = true
is_done Failed = false

-- those of a writer that was not flushed
abbrev pub no_flushes : Flushes
no_flushes = record { made = 0; failed = 0 }

-- a count after one more, which stops at the greatest u64
abbrev pub IsOneMore : ℕ → ℕ → Type 0
IsOneMore old new = (old < 2 ^ 64 - 1 → new ≡ old + 1) × (2 ^ 64 - 1 ≤ old → new ≡ old)

-- ONE MORE WAS MADE, and it did not fail
pub record WasFlushed (old new : Flushes) : Type 0 where
  pub made : IsOneMore old.made new.made
  pub failed : new.failed ≡ old.failed

-- one more was made, and it failed
pub record FailedToFlush (old new : Flushes) : Type 0 where
  pub made : IsOneMore old.made new.made
  pub failed : IsOneMore old.failed new.failed

-- a flush that answered so was counted
abbrev pub CountsFlush : {T E : Type 0} → Result T E → Flushes → Flushes → Type 0
CountsFlush (Ok x) old new = WasFlushed old new
CountsFlush (Err error) old new = FailedToFlush old new
