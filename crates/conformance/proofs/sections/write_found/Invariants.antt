use Rattle.std.proofs.Common.{map, take}
use Rattle.std.specs.Io.KnownBytes.{Appends}
use Rattle.conformance.specs.Sections.{placed}
use Rattle.conformance.specs.Answers.{sections_text}
use Rattle.conformance.proofs.sections.write_found.Given as goal

abbrev pub invariant-loop-finished : goal.invariant-loop-finished
invariant-loop-finished g l = Appends (g.O.Write.contents l.initial.output) (g.O.Write.contents l.output) (sections_text (map placed (take l.finished-index l.finished-items)))
