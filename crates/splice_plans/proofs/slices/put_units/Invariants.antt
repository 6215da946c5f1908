use Rattle.std.proofs.Common.{◌≡◌, ◌++◌, ℕ, List, length, Option, ◌+◌, ◌≤◌}
use Rattle.ts_packet.specs.Numbering.{Step, Counts}
use Rattle.ts_packet.specs.Transfers.{WentWell}
use Rattle.unit_stream.specs.UnitPackets.{put_in}
use Rattle.ad_library.specs.Advertisements.{AdvertUnit}
use Rattle.ad_library.specs.Slices.{left}
use Rattle.splice_plans.specs.Slicing.{due_units, slice_packets}
use Rattle.splice_plans.proofs.slices.put_units.Given as goal

-- some of the units are put and counted, and the others are left
abbrev pub invariant-loop-count : goal.invariant-loop-count
invariant-loop-count g l = record {
  leads : g.S.PacketSink.leads l.initial.sink l.sink;
  well : WentWell (g.S.PacketSink.counts l.initial.sink) (g.S.PacketSink.counts l.sink);
  few : l.count + length (left l.rest) ≤ l.most;
  put : (done : List AdvertUnit) × (length done ≡ l.count) × (due_units l.reached (left l.initial.rest) ≡ done ++ due_units l.reached (left l.rest))
      × ((steps : List Step) → Counts l.initial.counter steps → Counts l.counter (put_in (slice_packets l.pid l.delta steps done) steps))
      × ((begin : Option (List ℕ)) (ps : List (List ℕ)) (steps : List Step) → g.S.PacketSink.holds l.initial.sink begin ps → Counts l.initial.counter steps
      → g.S.PacketSink.holds l.sink begin (ps ++ slice_packets l.pid l.delta steps done));
}
