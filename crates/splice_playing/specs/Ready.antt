-- The assembler of the cues shows no section that waits.
use Rattle.std.specs.Prelude.{ℕ, List, [], ◌∷◌, Bool, true, false}
use Rattle.psi_section.specs.declared.front.Front.{Front}
use Rattle.psi_section.specs.declared.front.Front.TheVariants as fronts
use Rattle.psi_section.specs.declared.assembler.Assembler.{Assembler}
use Rattle.psi_section.specs.Sections.{front_of}
use Rattle.psi_section.specs.Storing.{content}

abbrev pub is_part_front : Front → Bool
is_part_front fronts.Nothing = false
is_part_front fronts.Part = true
is_part_front (fronts.Whole n) = false

-- there are no bytes, or they are a part of a section
abbrev pub is_part : List ℕ → Bool
is_part [] = true
is_part (x ∷ xs) = is_part_front (front_of (x ∷ xs))

abbrev pub is_ready : Assembler → Bool
is_ready a = is_part (content a.store)
