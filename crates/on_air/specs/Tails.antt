-- The packets that have brought a section on the PID of a program's map that is not whole yet (ISO/IEC 13818-1, 2.4.4).
use Rattle.std.specs.Prelude.{◌≡◌, ℕ, ◌≤◌, List, [], ◌∷◌, Bool, if◌then◌else◌, Option, None, Some, length, reverse, take, min, nat_le, nat_lt}
use Rattle.ts_packet.specs.Fields.{unit_start}
use Rattle.ts_packet.specs.Duplicates.{original, last_of}
use Rattle.ts_packet.specs.Following.{Follows}
use Rattle.psi_section.specs.Sections.{held}
use Rattle.psi_section.specs.Assembling.{Waits}
use Rattle.program_follower.specs.declared.purpose.Purpose.{Purpose}
use Rattle.program_follower.specs.Program.{pmt_pid_of, since_pat}
use Rattle.on_air.specs.declared.tail.MapTail.{MapTail}

-- a part of a section is held behind these packets of the PID
abbrev pub has_part : ℕ → List (List ℕ) → Bool
has_part pid past = nat_lt 0 (length (held pid past))

-- A part begins in the last packet with payload_unit_start_indicator (2.4.3.3; pointer_field tells where), and the packets behind that bring
-- more of it.
abbrev pub brought_on : Bool → Bool → List ℕ → List (List ℕ) → List (List ℕ)
brought_on is_part begins p before = if is_part then (if begins then p ∷ [] else p ∷ before) else []

-- THE PACKETS that have brought the part of a section which these packets of a PID end with, newest first; a duplicate brings nothing
abbrev pub brought : ℕ → List (List ℕ) → List (List ℕ)
brought pid [] = []
brought pid (p ∷ past) = if original pid p past
    then brought_on (has_part pid (p ∷ past)) (unit_start p) p (brought pid past)
    else brought pid past

-- they go out in order; of more than 32 none does
abbrev pub tail_of : List (List ℕ) → List (List ℕ)
tail_of ps = if nat_le (length ps) 32 then reverse ps else []

abbrev pub tail_on : Option ℕ → List (List ℕ) → List (List ℕ)
tail_on None since = []
tail_on (Some pid) since = tail_of (brought pid since)

-- ---- what is kept of them

-- these packets are kept, newest first; of more than 32 it is only known that there are more
pub record KeepsPackets (t : MapTail) (ps : List (List ℕ)) : Type 0 where
  pub count : t.count ≡ min (length ps) 33
  pub packets : length ps ≤ 32 → take (length ps) t.packets ≡ reverse ps

-- no packet of the PID has come, and none is kept
pub record IsUnread (t : MapTail) (pid : ℕ) (since : List (List ℕ)) : Type 0 where
  pub waits : Waits t.assembler pid since
  pub none : last_of pid since ≡ None
  pub brought : brought pid since ≡ []

-- the packets of the PID were read
pub record IsRead (t : MapTail) (pid : ℕ) (since : List (List ℕ)) : Type 0 where
  pub waits : Waits t.assembler pid since
  pub follows : Follows t.follower t.last pid since
  pub keeps : KeepsPackets t (brought pid since)

abbrev pub TailIs : Option ℕ → MapTail → Option ℕ → List (List ℕ) → Type 0
TailIs None t known since = (t.count ≡ 0) × ((pid : ℕ) → IsUnread t pid since)
TailIs (Some pid) t known since = (known ≡ Some pid) × IsRead t pid since

-- It was given these packets since the PAT, newest first, which gave the map this PID.
abbrev pub TailStands : MapTail → Option ℕ → List (List ℕ) → Type 0
TailStands t known since = TailIs t.pid t known since

-- ---- of a program's map

-- THE PACKETS BEHIND A STRETCH that ends, whose packets were read so: those that have brought a section on the PID of the program's map which is
-- not whole yet
abbrev pub tail_behind : Purpose → List (List ℕ) → List (List ℕ)
tail_behind c read = tail_on (pmt_pid_of c.program read) (since_pat c.program read)

-- what is kept behind packets that were read so
abbrev pub TailOf : MapTail → Purpose → List (List ℕ) → Type 0
TailOf t c read = TailStands t (pmt_pid_of c.program read) (since_pat c.program read)
