-- Packets and null packets (ISO/IEC 13818-1, 2.4.3.3: PID 0x1FFF) of a past, newest first.
use Rattle.std.specs.Prelude.{◌≡◌, ℕ, ◌-◌, ◌^◌, List, length, min, Bool, count_by}
use Rattle.ts_packet.specs.Fields.{on}
use Rattle.stream_facts.specs.declared.counts.PacketCounts.{PacketCounts}

-- a packet of PID 0x1FFF; the PID of one that is marked in error is not to be relied on
abbrev pub is_null : List ℕ → Bool
is_null p = on 0x1FFF p

-- they are counted, up to the greatest number
pub record Counts (counts : PacketCounts) (past : List (List ℕ)) : Type 0 where
  pub packets : counts.packets ≡ min (length past) (2 ^ 64 - 1)
  pub nulls : counts.nulls ≡ min (count_by is_null past) (2 ^ 64 - 1)

abbrev pub OfCounted : PacketCounts → (List (List ℕ) → Type 0) → Type 0
OfCounted counts says = (past : List (List ℕ)) → Counts counts past → says past
