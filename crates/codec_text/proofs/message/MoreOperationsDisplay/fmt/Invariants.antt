use Rattle.std.proofs.Common.{◌≡◌, ℕ, List, ◌++◌}
use Rattle.std.specs.Fmt.{HasWritten, IsPlainFormatter}
use Rattle.scte104_codec.specs.OperationsLeft.{operations_left}
use Rattle.codec_text.specs.Texts.{more_operations_text}
use Rattle.codec_text.proofs.message.MoreOperationsDisplay.fmt.Given as goal

abbrev pub invariant-loop-op : goal.invariant-loop-op
invariant-loop-op g l =
    IsPlainFormatter l.initial.f → (done : List ℕ) × HasWritten g.W.Write.write_str_gives l.initial.f done l.f
    × (done ++ more_operations_text (operations_left l.op-iterator) ≡ more_operations_text (operations_left l.fn.self.0))
