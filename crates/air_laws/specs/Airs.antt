-- Packets of a stretch on air: as they came, or go out, and as they are read.
use Rattle.std.specs.Prelude.{ℕ, List, not, map, filter}
use Rattle.chain_engine.specs.Airing.{Aired, read_of}

-- as they came, or go out
abbrev pub all_put : List Aired → List (List ℕ)
all_put packets = map (λ (a : Aired). a.packet) packets

-- as they are read: one that is left unjudged is read as one that is marked in error
abbrev pub all_read : List Aired → List (List ℕ)
all_read packets = map read_of packets

-- those that are left unjudged
abbrev pub left_unjudged : List Aired → List Aired
left_unjudged packets = filter (λ (a : Aired). not a.is_judged) packets
