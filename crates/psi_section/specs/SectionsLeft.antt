-- What an iterator over sections has left.
use Rattle.std.specs.Prelude.{ℕ, List, filter}
use Rattle.psi_section.specs.declared.sections.Sections.{Sections}
use Rattle.psi_section.specs.Sections.{taken, is_good}

-- the sections that are still to come
unfoldable pub sections_left : Sections → List (List ℕ)
sections_left s = filter is_good (taken s.bytes.now).finished
