use Rattle.std.proofs.Common.{◌≡◌, List, length, Option}
use Rattle.std.specs.Prelude.{ℤ, slice_index_or}
use Rattle.ts_packet.specs.Numbering.{Counts}
use Rattle.ts_packet.specs.Transfers.{WentWell}
use Rattle.psi_tables.specs.declared.stream.Stream.{Stream}
use Rattle.event_table.specs.Standing.{Standing}
use Rattle.event_table.specs.Tables.{StandsFor}
use Rattle.ad_library.specs.Library.{held}
use Rattle.splice_plans.specs.Parts.{KeepsEvents}
use Rattle.splice_plans.proofs.ClosingLemmas.{ClosedSoFar}
use Rattle.splice_plans.proofs.runs.close_all.Given as goal

-- the rest of those that start first is put, and the others are left to close
abbrev pub invariant-loop-turn : goal.invariant-loop-turn
invariant-loop-turn g l = record {
  leads : g.S.PacketSink.leads l.initial.sink l.sink;
  well : WentWell (g.S.PacketSink.counts l.initial.sink) (g.S.PacketSink.counts l.sink);
  keeps : KeepsEvents l.initial.events l.events;
  size : l._turn-end ≡ length l.initial.events.obeyed.table.entries.items;
  closed : (of : Stream) (latest : Option ℤ) (es : List Standing) → of ≡ slice_index_or l.streams l.stream of → StandsFor l.initial.events.obeyed.table latest es
      → ClosedSoFar (held l.library) l.streams l.stream of l.initial.events.obeyed.table l.events.obeyed.table (Counts l.initial.counter) (Counts l.counter)
      (g.S.PacketSink.holds l.initial.sink) (g.S.PacketSink.holds l.sink) l._turn l._turn-end es;
}
