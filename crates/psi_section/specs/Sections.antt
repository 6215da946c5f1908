-- The sections in the payloads of the packets of one PID (ISO/IEC 13818-1, 2.4.4.1 and 2.4.4.2), by the packets that came before,
-- newest first: what is held of a section that is not finished, and which sections one packet more finishes.
use Rattle.std.specs.Prelude.{ℕ, zero, suc, ◌+◌, ◌-◌, ◌*◌, ◌/◌, ◌%◌, List, [], ◌∷◌, ◌++◌, Bool, not, ◌&&◌, ◌||◌, ◌==◌, if◌then◌else◌, Option, None, Some, nat_le, nat_lt, length, take, drop, filter, map, count_by, slice_index}
use Rattle.ts_packet.specs.declared.follower.Last.{Last}
use Rattle.ts_packet.specs.Fields.{unit_start, bytes}
use Rattle.ts_packet.specs.Duplicates.{original, last_of, follows_on}
use Rattle.ts_packet.specs.Runs.{Seen, seen_after}
use Rattle.psi_section.specs.declared.front.Front.{Front}
use Rattle.psi_section.specs.declared.front.Front.TheVariants.{Nothing, Whole, Part}
use Rattle.psi_section.specs.Crc.{crc}

-- ---- one section

-- section_length: how many bytes stand behind it
abbrev pub section_length : List ℕ → ℕ
section_length s = slice_index s 1 % 16 * 256 + slice_index s 2

-- section_syntax_indicator is 1: the section has the fields that all tables have, and ends with CRC_32
abbrev pub has_syntax : List ℕ → Bool
has_syntax s = slice_index s 1 / 128 % 2 == 1

-- The size of the section that begins so: the three bytes up to section_length, and as many as that says. It is known from the
-- third byte on.
abbrev pub section_size : List ℕ → Option ℕ
section_size [] = None
section_size (a ∷ []) = None
section_size (a ∷ b ∷ []) = None
section_size (a ∷ b ∷ c ∷ rest) = Some (section_length (a ∷ b ∷ c ∷ rest) + 3)

-- it ends with CRC_32: section_syntax_indicator is 1, or table_id is 0xFC
abbrev pub has_crc : List ℕ → Bool
has_crc s = has_syntax s || (slice_index s 0 == 0xFC)

-- its CRC_32 fails
abbrev pub is_bad : List ℕ → Bool
is_bad s = has_crc s && not (crc s == 0)

-- it has none, or that does not fail
abbrev pub is_good : List ℕ → Bool
is_good s = not (is_bad s)

-- ---- a payload

-- The size decides how bytes begin: a section over 4,096 bytes is none, and one that is not there to its end is a part.
abbrev pub front_by : Option ℕ → ℕ → Front
front_by None have = Part
front_by (Some size) have = if nat_lt 4096 size then Nothing else (if nat_le size have then Whole size else Part)

-- bytes begin with nothing where there are none, and with stuffing where table_id is 0xFF
abbrev pub front_of : List ℕ → Front
front_of [] = Nothing
front_of (x ∷ xs) = if x == 0xFF then Nothing else front_by (section_size (x ∷ xs)) (length (x ∷ xs))

-- what came of some bytes: the sections that they finish, in order, and the part of one that they end with
pub record Assembled : Type 0 where
  pub finished : List (List ℕ)
  pub part : List ℕ

-- no section and no part
abbrev pub nothing : Assembled
nothing = record { finished = []; part = [] }

-- a section, and what came of the bytes behind it
abbrev pub with_section : List ℕ → Assembled → Assembled
with_section s t = record { finished = s ∷ t.finished; part = t.part }

-- The sections that stand one after another behind so many bytes: a table_id 0xFF ends them, and so does a section over 4,096 bytes.
abbrev pub taken_past : ℕ → List ℕ → Assembled
taken_past k [] = nothing
taken_past (suc k) (x ∷ xs) = taken_past k xs
taken_past zero (x ∷ xs) = elim (front_of (x ∷ xs)) as (λ f. Assembled) [
  | Nothing ↦ nothing
  | Part ↦ record { finished = []; part = x ∷ xs }
  | Whole size ↦ with_section (take size (x ∷ xs)) (taken_past (size - 1) xs)
]

-- the sections that stand one after another in these bytes
abbrev pub taken : List ℕ → Assembled
taken bs = taken_past 0 bs

-- sections before others
abbrev pub after : List (List ℕ) → Assembled → Assembled
after sections t = record { finished = sections ++ t.finished; part = t.part }

-- Bytes behind the part of a section: what is behind its end is passed over, and so is all where there is no part.
abbrev pub continued : List ℕ → List ℕ → Assembled
continued [] bs = nothing
continued (x ∷ xs) bs = elim (front_of ((x ∷ xs) ++ bs)) as (λ f. Assembled) [
  | Nothing ↦ nothing
  | Part ↦ record { finished = []; part = (x ∷ xs) ++ bs }
  | Whole size ↦ record { finished = take size ((x ∷ xs) ++ bs) ∷ []; part = [] }
]

-- A payload with payload_unit_start_indicator: pointer_field counts the bytes before the first section that begins in it. They end
-- the part, or it is discarded. A pointer past the payload discards both.
abbrev pub started : List ℕ → List ℕ → Assembled
started part [] = nothing
started part (pointer ∷ bs) = if nat_le pointer (length bs) then after (continued part (take pointer bs)).finished (taken (drop pointer bs)) else nothing

-- a payload with payload_unit_start_indicator, or without
abbrev pub payload_taken : Bool → List ℕ → List ℕ → Assembled
payload_taken start part bs = if start then started part bs else continued part bs

-- ---- packets

-- the part, unless the counter shows a gap
abbrev pub unbroken : List ℕ → Option Last → List ℕ → List ℕ
unbroken p last part = if follows_on p last then part else []

-- what comes of a packet behind the last payload packet and a part
abbrev pub packet_taken : List ℕ → Option Last → List ℕ → Assembled
packet_taken p last part = payload_taken (unit_start p) (unbroken p last part) (bytes p)

-- The part of a section that the packets end with. Packets marked in error, without payload or of another PID are left out, and
-- duplicates are passed over.
abbrev pub held : ℕ → List (List ℕ) → List ℕ
held pid [] = []
held pid (p ∷ past) = if original pid p past then (packet_taken p (last_of pid past) (held pid past)).part else held pid past

-- the sections that one packet more finishes, in order, those whose CRC_32 fails among them
abbrev pub finished : ℕ → List ℕ → List (List ℕ) → List (List ℕ)
finished pid p past = if original pid p past then (packet_taken p (last_of pid past) (held pid past)).finished else []

-- those whose CRC_32 does not fail
abbrev pub given : ℕ → List ℕ → List (List ℕ) → List (List ℕ)
given pid p past = filter is_good (finished pid p past)

-- how many failed
abbrev pub failed : ℕ → List (List ℕ) → ℕ
failed pid [] = 0
failed pid (p ∷ past) = count_by is_bad (finished pid p past) + failed pid past

-- ---- whole runs

-- the sections of packets with their pasts
abbrev pub given_by : ℕ → List Seen → List (List ℕ)
given_by pid [] = []
given_by pid (s ∷ ss) = given pid s.packet s.past ++ given_by pid ss

-- the sections of packets with their pasts, each behind the packet that finishes it
abbrev pub sections_with : ℕ → List Seen → List (Seen × List ℕ)
sections_with pid [] = []
sections_with pid (s ∷ ss) = map (λ section. (s, section)) (given pid s.packet s.past) ++ sections_with pid ss

-- the sections of packets that come in this order behind a past
abbrev pub sections_after : List (List ℕ) → ℕ → List (List ℕ) → List (List ℕ)
sections_after past pid ps = given_by pid (seen_after past ps)

-- the sections of packets, in order
abbrev pub sections : ℕ → List (List ℕ) → List (List ℕ)
sections pid ps = sections_after [] pid ps
