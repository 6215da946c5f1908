-- What a fault is told as, and the exit status behind it.
use Rattle.std.specs.Prelude.{ℕ, List, Option, Some, None, codes}
use Rattle.std.specs.IoError.{error_kind}
use Rattle.std.specs.declared.io.ErrorKind.{ErrorKind}
use Rattle.std.specs.declared.io.ErrorKind.TheVariants.{OutOfMemory}
use Rattle.conformance.specs.declared.usage.TheConstants.{USAGE}
use Rattle.conformance.specs.declared.fault.Fault.{Fault}
use Rattle.conformance.specs.declared.fault.Fault.TheVariants.{Words, NotText, Stopped}
use Rattle.conformance.specs.declared.program.Stop.TheVariants.{TooManyLines, Io}
use Rattle.conformance.specs.Answers.{ended}

-- 2 where the command line is at fault, and else 1
abbrev pub exit_status : Fault → ℕ
exit_status Words = 2
exit_status NotText = 2
exit_status (Stopped stop) = 1

-- what is told of a device's error; the system's own words are not known
abbrev pub error_text : ErrorKind → Option (List ℕ)
error_text OutOfMemory = Some (ended (codes "fault: OutOfMemory"))
error_text kind = None

-- what is told of a fault, where that is known
abbrev pub fault_text : Fault → Option (List ℕ)
fault_text Words = Some USAGE.now
fault_text NotText = Some (ended (codes "error: an argument is not UTF-8 text"))
fault_text (Stopped TooManyLines) = Some (ended (codes "fault: Io: more lines than can be counted"))
fault_text (Stopped (Io error)) = error_text (error_kind error)
