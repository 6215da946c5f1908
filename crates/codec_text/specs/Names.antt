-- The names of faults and of results, as they are printed.
use Rattle.std.specs.Prelude.{ℕ, List, [], ◌∷◌, Option, Some, None, codes, ◌==◌, if◌then◌else◌}
use Rattle.scte35_codec.specs.declared.cue.CueFault.{CueFault}
use Rattle.scte35_codec.specs.declared.cue.CueFault.TheVariants.{NotCue, Length, Version, Encrypted, Command}
use Rattle.psi_tables.specs.declared.fault.TableFault.{TableFault}
use Rattle.psi_tables.specs.declared.fault.TableFault.TheVariants.{WrongTable, BadLength, Sections}

abbrev pub cue_fault_name : CueFault → List ℕ
cue_fault_name NotCue = codes "NotCue"
cue_fault_name Length = codes "Length"
cue_fault_name Version = codes "Version"
cue_fault_name Encrypted = codes "Encrypted"
cue_fault_name Command = codes "Command"

abbrev pub table_fault_name : TableFault → List ℕ
table_fault_name WrongTable = codes "WrongTable"
table_fault_name BadLength = codes "BadLength"
table_fault_name Sections = codes "Sections"

-- ---- results

-- success is the standard's; the refusals are this project's, by the names that they have in the injector
abbrev pub named_results : List (ℕ × List ℕ)
named_results =
    (100, codes "Success")
    ∷ (0x8001, codes "BadSyntax")
    ∷ (0x8002, codes "WrongVersion")
    ∷ (0x8003, codes "WrongIndex")
    ∷ (0x8004, codes "TimeType")
    ∷ (0x8005, codes "UnknownOp")
    ∷ (0x8006, codes "NoRequest")
    ∷ (0x8007, codes "TwoRequests")
    ∷ (0x8008, codes "BadType")
    ∷ (0x8009, codes "Unsupported")
    ∷ (0x800A, codes "TooManyAvails")
    ∷ (0x800B, codes "NoDuration")
    ∷ (0x800C, codes "NoReturn")
    ∷ (0x800D, codes "NoPreRoll")
    ∷ (0x800E, codes "NoClock")
    ∷ (0x800F, codes "InUse")
    ∷ (0x8010, codes "Full")
    ∷ (0x8011, codes "Overlap")
    ∷ (0x8012, codes "NoSuchEvent")
    ∷ (0x8013, codes "TooLate")
    ∷ (0x8014, codes "BadEnd")
    ∷ []

-- the first of these names that stands behind this number
abbrev pub name_among : ℕ → List (ℕ × List ℕ) → Option (List ℕ)
name_among number [] = None
name_among number (named ∷ rest) = if number == named.0 then Some named.1 else name_among number rest

-- the name of a result, where it has one
abbrev pub result_name : ℕ → Option (List ℕ)
result_name number = name_among number named_results
