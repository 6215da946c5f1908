use Rattle.std.proofs.Common.{◌≡◌, ◌++◌, map}
use Rattle.psi_section.specs.SectionsLeft.{sections_left}
use Rattle.conformance.specs.Sections.{at_place, placed}
use Rattle.conformance.proofs.sections.keep.Given as goal

-- what is kept, with what is still to come, is all of them
abbrev pub invariant-loop-section : goal.invariant-loop-section
invariant-loop-section l =
    map placed l.finished.items ++ at_place l.place (sections_left l.section-iterator) ≡ map placed l.initial.finished.items ++ at_place l.place (sections_left l.sections)
