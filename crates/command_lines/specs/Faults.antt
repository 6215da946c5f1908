-- The line that names a fault.
use Rattle.std.specs.Prelude.{ℕ, List, [], ◌∷◌, ◌++◌, codes}

abbrev pub fault_line : List ℕ → List ℕ
fault_line name = codes "fault: " ++ (name ++ 10 ∷ [])
