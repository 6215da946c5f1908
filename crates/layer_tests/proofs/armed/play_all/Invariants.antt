use Rattle.std.proofs.Common.{◌<◌}
use Rattle.psi_section.specs.Assembling.{IsReady}
use Rattle.layer_tests.proofs.armed.play_all.Given as goal

abbrev pub invariant-loop-k : goal.invariant-loop-k
invariant-loop-k l = record { ready : IsReady l.events.assembler; counter : l.counter < 16 }
