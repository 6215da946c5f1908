use Rattle.std.proofs.Common.{◌≡◌, ◌≤◌, ℕ, List, length, drop, Option, None, true}
use Rattle.std.specs.Prelude.{ℤ, slice_index_or}
use Rattle.ts_packet.specs.Numbering.{Step}
use Rattle.ts_packet.specs.Transfers.{WentWell}
use Rattle.event_table.specs.Standing.{Standing}
use Rattle.event_table.specs.Tables.{StandsFor, values_of}
use Rattle.ad_library.specs.Library.{held}
use Rattle.splice_plans.specs.declared.stream.SwitchedStream.{SwitchedStream}
use Rattle.splice_plans.specs.Parts.{KeepsEvents, IsReached}
use Rattle.splice_plans.specs.Fronts.{AllCount, all_ran}
use Rattle.splice_playing.proofs.StreamLemmas.{RunSoFar}
use Rattle.splice_playing.proofs.playing.Playing.put_each_running.Given as goal

-- what is due has gone out in the streams up to here
abbrev pub invariant-loop-stream : goal.invariant-loop-stream
invariant-loop-stream g l = record {
  wakes : l.self.rest ≡ None;
  runs : l.self.may_run ≡ true;
  leads : g.S.PacketSink.leads l.initial.sink l.sink;
  well : WentWell (g.S.PacketSink.counts l.initial.sink) (g.S.PacketSink.counts l.sink);
  keeps : KeepsEvents l.initial.self.events l.self.events;
  units : l.self.leaving ≡ l.initial.self.leaving;
  forgotten : l.self.forgotten ≡ l.initial.self.forgotten;
  turns : l.self.turns ≡ l.initial.self.turns;
  leaving : (i : ℕ) (s : SwitchedStream) → (slice_index_or l.self.streams i s).is_leaving ≡ (slice_index_or l.initial.self.streams i s).is_leaving;
  plans : (latest latest_behind : Option ℤ) (es : List Standing) → StandsFor l.initial.self.events.obeyed.table latest es → IsReached latest l.high latest_behind
      → all_ran (held l.library) l.streams latest_behind es (values_of l.self.events.obeyed.table) l.stream (drop l.stream l.streams) ≡ all_ran (held l.library) l.streams latest_behind es (values_of l.initial.self.events.obeyed.table) 0 l.streams;
  run : (latest latest_behind : Option ℤ) (es : List Standing) (steps : ℕ → List Step) → length l.streams ≤ 8 → StandsFor l.initial.self.events.obeyed.table latest es → IsReached latest l.high latest_behind
      → AllCount l.initial.self.streams steps
      → RunSoFar (held l.library) l.streams latest_behind es steps (values_of l.initial.self.events.obeyed.table) (values_of l.self.events.obeyed.table) l.stream (g.S.PacketSink.holds l.initial.sink) (g.S.PacketSink.holds l.sink) l.self.streams;
}
