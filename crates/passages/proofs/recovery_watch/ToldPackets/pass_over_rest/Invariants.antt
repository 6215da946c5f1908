use Rattle.std.proofs.Common.{◌-◌, ◌^◌}
use Rattle.passages.proofs.recovery_watch.ToldPackets.pass_over_rest.Given as goal

abbrev pub invariant-loop-fault : goal.invariant-loop-fault
invariant-loop-fault g l = g.P.PacketSource.leads l.fn.self.inner l.self.inner

-- each read gives one packet more, and no source gives 2^64
abbrev pub decreases-loop-fault : goal.decreases-loop-fault
decreases-loop-fault g l = 2 ^ 64 - g.P.PacketSource.given l.self.inner
