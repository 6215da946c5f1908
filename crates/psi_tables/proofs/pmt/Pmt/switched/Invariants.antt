use Rattle.psi_tables.specs.StreamsLeft.{streams_left}
use Rattle.psi_tables.specs.ProgramMap.{map_of, streams_of}
use Rattle.psi_tables.proofs.SwitchedLemmas.{Switching}
use Rattle.psi_tables.proofs.pmt.Pmt.switched.Given as goal

-- the switched streams as far as the entries have come
abbrev pub invariant-loop-stream : goal.invariant-loop-stream
invariant-loop-stream l = Switching l.streams.items (streams_left l.stream-iterator) (streams_of (map_of l.self.bytes.now))
