-- What is filed of streams that were gathered.
use Rattle.std.specs.List.{AllByRecursion}
use Rattle.std.specs.Prelude.{◌≡◌, ℕ, ◌≤◌, ℤ, List, [], ◌∷◌, map, reverse, Option, None, Some}
use Rattle.program_follower.specs.Program.{program_of, behind_head}
use Rattle.ad_library.specs.Gathering.{StreamsGathered}
use Rattle.ad_library.specs.declared.gathered.Gathered.{Gathered}
use Rattle.ad_library.specs.declared.store.UnitPlace.{UnitPlace}
use Rattle.ad_library.specs.Advertisements.{KeptUnit, KeptStream, lower}
use Rattle.ad_library.specs.Storing.{StoredUnit, Stores, kept_unit, on_line}

-- stored units, newest first, in order
abbrev pub kept_of : List StoredUnit → List KeptUnit
kept_of us = reverse (map kept_unit us)

-- none of them lies before this time
abbrev pub ArePast : ℕ → List StoredUnit → Type 0
ArePast zero' us = AllByRecursion (λ (u : StoredUnit). zero' ≤ u.time) us

-- the least time of units at these places
abbrev pub least_of_places : List UnitPlace → Option ℤ
least_of_places [] = None
least_of_places (p ∷ ps) = lower (least_of_places ps) (on_line p.time)

-- the stream's units are stored
pub record StoresStream {A : Type 0} (g : Gathered A) (k : KeptStream) : Type 0 where
  pub units : List StoredUnit
  pub stored : Stores g.store units
  pub kind : g.kind ≡ k.kind
  pub units_are : k.units ≡ kept_of units

-- of each stream, in their order
abbrev pub AllStored : {A : Type 0} → List (Gathered A) → List KeptStream → Type 0
AllStored [] [] = Unit {0}
AllStored (g ∷ gs) (k ∷ ks) = StoresStream g k × AllStored gs ks
AllStored [] (k ∷ ks) = ⊥
AllStored (g ∷ gs) [] = ⊥

-- they are the streams of the program, after these packets
abbrev pub AreOf : {A : Type 0} → List (Gathered A) → List (List ℕ) → Type 0
AreOf gs past = StreamsGathered (Some gs) (program_of None past) (behind_head None past)
