use Rattle.psi_section.specs.Assembling.{IsReady}
use Rattle.codec_tests.proofs.sections.sections_in.Given as goal

abbrev pub invariant-loop-packet : goal.invariant-loop-packet
invariant-loop-packet l = IsReady l.assembler
