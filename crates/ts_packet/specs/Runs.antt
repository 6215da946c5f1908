-- Whole runs of packets, in order: each packet with those before it, so that every statement over a run is a filter or a map.
use Rattle.std.specs.Prelude.{ℕ, ◌∷◌, List, [], not, Option, None, filter, map, reverse, All}
use Rattle.ts_packet.specs.Fields.{on, without_number}
use Rattle.ts_packet.specs.Duplicates.{InStep, nearest}

-- a packet with its past, newest first
pub record Seen : Type 0 where
  pub packet : List ℕ
  pub past : List (List ℕ)

-- packets with their pasts, behind a past
abbrev pub seen_after : List (List ℕ) → List (List ℕ) → List Seen
seen_after past [] = []
seen_after past (p ∷ ps) = record { packet = p; past = past } ∷ seen_after (p ∷ past) ps

-- a run is gapless on a PID, behind the last payload packet of its head
abbrev pub IsGaplessAfter : Option (List ℕ) → ℕ → List (List ℕ) → Type 0
IsGaplessAfter before pid ps = All (λ (s : Seen). InStep before pid s.packet s.past) (seen_after [] ps)

-- a run without a head is gapless on a PID
abbrev pub IsGapless : ℕ → List (List ℕ) → Type 0
IsGapless pid ps = IsGaplessAfter None pid ps

-- a run with a head is gapless on a PID: both parts are, and the step from one to the other is
abbrev pub IsGaplessPast : List (List ℕ) → ℕ → List (List ℕ) → Type 0
IsGaplessPast head pid ps = IsGapless pid head × IsGaplessAfter (nearest None pid (reverse head)) pid ps

-- all packets but a PID's; those marked in error stay in
abbrev pub others : ℕ → List (List ℕ) → List (List ℕ)
others pid ps = filter (λ p. not (on pid p)) ps

-- packets but for their counters
abbrev pub uncounted : List (List ℕ) → List (List ℕ)
uncounted ps = map without_number ps

-- a past, newest first, with packets added in their order
abbrev pub onto : List (List ℕ) → List (List ℕ) → List (List ℕ)
onto past [] = past
onto past (p ∷ ps) = onto (p ∷ past) ps
