-- What the code knows of a program, and of the map that it found without a fault last.
use Rattle.std.specs.Prelude.{◌≡◌, true, Option, Some, None, is_some, option_map}
use Rattle.program_follower.specs.declared.purpose.Purpose.{Purpose}
use Rattle.program_follower.specs.declared.purpose.Listed.{Listed}
use Rattle.program_follower.specs.declared.known.KnownProgram.{KnownProgram}
use Rattle.program_follower.specs.declared.faultless_map.FaultlessMap.{FaultlessMap}
use Rattle.program_follower.specs.Program.{Program}
use Rattle.program_follower.specs.Judging.{fault_of_section}

-- what the code knows of the program
abbrev pub program_seen : KnownProgram → Program
program_seen k = record { streams = k.streams.items; pcr_pid = k.pcr_pid }

abbrev pub known_seen : Option KnownProgram → Option Program
known_seen known = option_map program_seen known

-- The map that is kept, if any, has no fault by what is known, for the purpose and the entry of the PAT that are kept with it; and the program
-- is known.
abbrev pub IsFaultless : FaultlessMap → Option Program → Type 0
IsFaultless m known = (c : Purpose) (l : Listed) → m.by ≡ Some (c, l)
    → (fault_of_section c l known m.section.items ≡ None) × (is_some known ≡ true)
