use Rattle.std.proofs.Common.{arith}
use Rattle.passages.proofs.RecoveryLemmas.{skipped_end}
use Rattle.passages.proofs.recovery_watch.RecoveringReaderRecoveringPackets.skipped.Goals as goal

pub returns : goal.returns
returns g c = λ at_end. rw c.skipped.ensures (skipped_end c.args.self.now.skipped _ (omega arith) at_end)
