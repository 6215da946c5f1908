use Rattle.std.proofs.Common.{◌++◌, List, ℕ, Option, take}
use Rattle.on_air.proofs.tail.MapTail.put.Given as goal

-- these packets are put
abbrev pub invariant-loop-packet : goal.invariant-loop-packet
invariant-loop-packet g l = g.K.PacketSink.leads l.initial.out l.out × ((start : Option (List ℕ)) (before : List (List ℕ)) → g.K.PacketSink.holds l.initial.out start before
    → g.K.PacketSink.holds l.out start (before ++ take l.packet-index l.packet-items))
