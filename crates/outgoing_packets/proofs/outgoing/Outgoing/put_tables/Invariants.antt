use Rattle.std.proofs.Common.{ℕ, List, ◌++◌, Option}
use Rattle.ts_packet.specs.Transfers.{WentWell}
use Rattle.std.specs.Prelude.{All}
use Rattle.program_follower.specs.Program.{Table}
use Rattle.program_follower.specs.Standing.{tables_left}
use Rattle.outgoing_packets.specs.Entries.{sections_going, section_going, AllGoOut, HasBytes}
use Rattle.outgoing_packets.specs.Numbers.{HasPut}
use Rattle.outgoing_packets.proofs.NumberLemmas.{Going, Gone}
use Rattle.outgoing_packets.proofs.outgoing.Outgoing.put_tables.Given as goal

-- some of the tables are put, and the others are left
abbrev pub invariant-loop-table : goal.invariant-loop-table
invariant-loop-table g l = record {
  leads : g.S.PacketSink.leads l.initial.sink l.sink;
  well : WentWell (g.S.PacketSink.counts l.initial.sink) (g.S.PacketSink.counts l.sink);
  put : (out : List (List ℕ)) → HasPut l.initial.self out → AllGoOut l.change (tables_left l.fn.tables) →
      (put : List (List ℕ)) × Going l.change l.pid out (tables_left l.fn.tables) (tables_left l.table-iterator) l.self put
      × ((start : Option (List ℕ)) (ps : List (List ℕ)) → g.S.PacketSink.holds l.initial.sink start ps → g.S.PacketSink.holds l.sink start (ps ++ put));
  sent : (out : List (List ℕ)) → HasPut l.initial.self out → All HasBytes (tables_left l.fn.tables) →
      (whole : List Table) × Gone (section_going l.change) HasBytes l.pid out (tables_left l.fn.tables) (tables_left l.table-iterator) l.self whole
      × ((start : Option (List ℕ)) (ps : List (List ℕ)) → g.S.PacketSink.holds l.initial.sink start ps → g.S.PacketSink.holds l.sink start (ps ++ sections_going l.change l.pid out whole));
}
