use Rattle.std.proofs.Common.{arith}
use Rattle.passages.proofs.RecoveryLemmas.{mended_end}
use Rattle.passages.proofs.recovery_watch.RecoveringReaderRecoveringPackets.mended.Goals as goal

pub returns : goal.returns
returns g c = λ at_end. rw c.mended.ensures (mended_end c.args.self.now.mended _ (omega arith) at_end)
