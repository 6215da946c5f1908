-- The judging of sections on the PID of the PMT, one after another.
use Rattle.std.specs.Option.{option_or}
use Rattle.std.specs.Prelude.{ℕ, List, Option, Some, None, option_map}
use Rattle.psi_tables.specs.declared.network.NetworkFault.{NetworkFault}
use Rattle.psi_tables.specs.ProgramMap.{ProgramMap, pmt, map_of}
use Rattle.program_follower.specs.declared.purpose.Purpose.{Purpose}
use Rattle.program_follower.specs.declared.purpose.Listed.{Listed}
use Rattle.program_follower.specs.Program.{map_read, tables_in, first_map, Program, program_in}
use Rattle.program_follower.specs.Faults.{map_fault_from, tables_fault}

-- ---- one section

-- its fault, by what is known of the program and the map that it is, if it is one of the program
abbrev pub section_fault : Purpose → ℕ → Option Program → Option ProgramMap → Option NetworkFault
section_fault c pmt_pid known None = None
section_fault c pmt_pid known (Some m) = map_fault_from c pmt_pid known m

-- by its bytes
abbrev pub fault_of_section : Purpose → Listed → Option Program → List ℕ → Option NetworkFault
fault_of_section c l known s = section_fault c l.pid known (map_read l.program (pmt s))

abbrev pub known_behind : Listed → Option Program → List ℕ → Option Program
known_behind l known s = option_or known (option_map program_in (map_read l.program (pmt s)))

-- of the bytes of a map
abbrev pub fault_of_map : Purpose → ℕ → Option Program → List ℕ → Option NetworkFault
fault_of_map c pmt_pid known bytes = map_fault_from c pmt_pid known (map_of bytes)

-- ---- all that a packet finishes

abbrev pub fault_of_sections : Purpose → Listed → Option ProgramMap → List (List ℕ) → Option NetworkFault
fault_of_sections c l first ss = tables_fault c l.pid first (tables_in l ss)

abbrev pub known_behind_all : Listed → Option ProgramMap → List (List ℕ) → Option Program
known_behind_all l first ss = option_map program_in (option_or first (first_map (tables_in l ss)))
