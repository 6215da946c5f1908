-- Packets that are passed on unjudged: they are read as ones that are marked in error (ISO/IEC 13818-1, 2.4.3.3,
-- transport_error_indicator), and go out as they came.
use Rattle.std.specs.Prelude.{◌≡◌, ℕ, List, ◌∷◌, ◌++◌, map, Option, if◌then◌else◌}
use Rattle.ts_packet.specs.Fields.{in_error}
use Rattle.ts_packet.specs.declared.sink.PutFault.{PutFault}

-- what goes out for a packet, where it is this one that is read as marked in error
abbrev pub restored : List ℕ → List ℕ → List ℕ
restored p q = if in_error q then p else q

-- ---- a sink that puts this packet as it came

-- The list that the sink stands for tells what the output held before, and what was put since: behind one list as long as the first stand both.
abbrev pub put_behind : List (List ℕ) → List (List ℕ) → List (List ℕ)
put_behind before put = map (λ p. 0) before ∷ (before ++ put)

-- The sink stands for this list: the output holds what it held, and what was put since, restored. `holds` is the output's.
pub record RestoringHolds {K : Type 0} (holds : K → Option (List ℕ) → List (List ℕ) → Type 0) (p : List ℕ) (out : K) (start : Option (List ℕ))
    (ps : List (List ℕ)) : Type 0 where
  pub before : List (List ℕ)
  pub put : List (List ℕ)
  pub parts : ps ≡ put_behind before put
  pub sent : holds out start (before ++ map (restored p) put)

-- It stood for this list, and the put of this packet failed so. `fails` is the output's.
pub record RestoringFails {K : Type 0} (fails : K → Option (List ℕ) → List (List ℕ) → List ℕ → PutFault → Type 0) (p : List ℕ) (out : K)
    (start : Option (List ℕ)) (ps : List (List ℕ)) (q : List ℕ) (fault : PutFault) : Type 0 where
  pub before : List (List ℕ)
  pub put : List (List ℕ)
  pub parts : ps ≡ put_behind before put
  pub failed : fails out start (before ++ map (restored p) put) (restored p q) fault
