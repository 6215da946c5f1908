-- The log of events: its lines as bytes.
use Rattle.std.specs.Prelude.{◌≡◌, ℕ, ◌-◌, ◌^◌, List, Bool, true, false, Option, is_some}
use Rattle.std.specs.Io.KnownBytes.{Appends}
use Rattle.event_logs.specs.declared.log.EventLog.{EventLog}

-- a line could not be written
abbrev pub is_lost : {W : Type 0} → EventLog W → Bool
is_lost log = is_some log.lost

-- A LINE WAS PUT: where none is lost it was written whole, behind all that were, and where one was lost before nothing more is written. It is not
-- forgotten that one was lost.
pub record IsPut {W : Type 0} (contents : W → Option (List ℕ)) (line : List ℕ) (old new : EventLog W) : Type 0 where
  pub whole : is_lost new ≡ false → Appends (contents old.stream) (contents new.stream) line
  pub ended : is_lost old ≡ true → new ≡ old
  pub next_is : new.next_unjudged ≡ old.next_unjudged
  pub untold_is : new.untold ≡ old.untold

-- the greatest number that is counted
abbrev pub most : ℕ
most = 2 ^ 64 - 1
