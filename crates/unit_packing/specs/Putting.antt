-- What a fault leaves of a unit that was to be put.
use Rattle.std.specs.Prelude.{◌≡◌, ℕ, List, ◌∷◌, ◌++◌}
use Rattle.ts_packet.specs.Numbering.{Step, Counts, last_number, one_past}
use Rattle.ts_packet.specs.declared.counter.Counter.{Counter}
use Rattle.unit_stream.specs.UnitPackets.{put_in}

-- the counter of a packet put in behind these steps
abbrev pub next_number : List Step → ℕ
next_number steps = one_past (last_number steps)

-- Some of the packets went out, and the next failed so; the counter has counted those that went out, and that one not.
pub record UnitPutFails (counter : Counter) (steps : List Step) (packets : List (List ℕ)) (fails : List (List ℕ) → List ℕ → Type 0) : Type 0 where
  pub put : List (List ℕ)
  pub packet : List ℕ
  pub left : List (List ℕ)
  pub all : packets ≡ put ++ packet ∷ left
  pub fault : fails put packet
  pub counted : Counts counter (put_in put steps)
