-- What tells the duplicates of units that are left out (ISO/IEC 13818-1, 2.4.3.3, continuity_counter).
use Rattle.std.specs.Prelude.{◌≡◌, ℕ, ◌<◌, List, true, false, slice_get, slice_index_or, Some}
use Rattle.ts_packet.specs.Following.{Follows}
use Rattle.unit_stream.specs.Times.{begins, in_unit}
use Rattle.splice_plans.specs.declared.stream.SwitchedStream.{SwitchedStream}
use Rattle.splice_playing.specs.declared.leaving.LeavingUnit.{LeavingUnit}

-- It has taken the packets of the PID's last unit in this past, newest first.
abbrev pub HasTaken : LeavingUnit → ℕ → List (List ℕ) → Type 0
HasTaken unit pid past = Follows unit.follower unit.last pid past

-- so has each of the streams whose unit is left out
abbrev pub AllTaken : List LeavingUnit → List SwitchedStream → List ℕ → List (List ℕ) → Type 0
AllTaken units streams switched past = (i pid : ℕ) (u : LeavingUnit) (s : SwitchedStream) → i < 8
    → slice_get switched i ≡ Some pid → (slice_index_or streams i s).is_leaving ≡ true → in_unit pid past ≡ true
    → HasTaken (slice_index_or units i u) pid past

-- and so has each of them in which this packet begins no unit
abbrev pub OthersTaken : List LeavingUnit → List SwitchedStream → List ℕ → List ℕ → List (List ℕ) → Type 0
OthersTaken units streams switched p past = (i pid : ℕ) (u : LeavingUnit) (s : SwitchedStream) → i < 8
    → slice_get switched i ≡ Some pid → (slice_index_or streams i s).is_leaving ≡ true
    → begins pid p past ≡ false → in_unit pid past ≡ true → HasTaken (slice_index_or units i u) pid past
