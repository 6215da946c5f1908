use Rattle.std.proofs.Common.{◌≡◌, Option}
use Rattle.std.specs.Prelude.{option_map}
use Rattle.psi_tables.specs.ProgramMap.{ProgramMap}
use Rattle.psi_section.specs.SectionsLeft.{sections_left}
use Rattle.program_follower.specs.Program.{program_in}
use Rattle.program_follower.specs.Known.{known_seen, IsFaultless}
use Rattle.program_follower.proofs.MapsLemmas.{JudgingMaps}
use Rattle.program_follower.proofs.map_reader.judge_sections.Given as goal

abbrev pub invariant-loop-section : goal.invariant-loop-section
invariant-loop-section l = IsFaultless l.faultless (known_seen l.known)
    × ((before : Option ProgramMap) → known_seen l.initial.known ≡ option_map program_in before
    → JudgingMaps l.purpose l.listed before (sections_left l.sections) (known_seen l.known) (sections_left l.section-iterator))
