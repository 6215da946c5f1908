use Rattle.std.proofs.Common.{◌≡◌, ℕ, List, ◌++◌}
use Rattle.std.specs.Fmt.{HasWritten, IsPlainFormatter}
use Rattle.psi_tables.specs.StreamsLeft.{streams_left}
use Rattle.codec_text.specs.Texts.{more_streams_text}
use Rattle.codec_text.proofs.table.MoreEntriesDisplay.fmt.Given as goal

abbrev pub invariant-loop-stream : goal.invariant-loop-stream
invariant-loop-stream g l =
    IsPlainFormatter l.initial.f → (done : List ℕ) × HasWritten g.W.Write.write_str_gives l.initial.f done l.f
    × (done ++ more_streams_text (streams_left l.stream-iterator) ≡ more_streams_text (streams_left l.fn.self.0))
