use Rattle.std.proofs.Common.{List, [], ℕ}
use Rattle.std.specs.Prelude.{take}
use Rattle.ad_library.specs.Gathering.{AllGathered}
use Rattle.ad_library.proofs.gathering.none_of.Given as goal

abbrev pub invariant-loop-stream : goal.invariant-loop-stream
invariant-loop-stream g l = (pids : List ℕ) → AllGathered l.streams.items (take l.stream-index l.fn.switched) pids []
