use Rattle.std.proofs.Common.{◌≡◌, ◌-◌, ℕ, List, ◌++◌, length, Option}
use Rattle.std.specs.Prelude.{ℤ}
use Rattle.std.specs.List.{flat_map}
use Rattle.ts_packet.specs.Runs.{onto}
use Rattle.ts_packet.specs.Transfers.{WentWell}
use Rattle.event_table.specs.Tables.{high_time_of}
use Rattle.outgoing_packets.specs.Numbers.{HasPut}
use Rattle.injector.specs.Turns.{Turn, greatest_in}
use Rattle.injector.specs.Requests.{RequestsStandFor}
use Rattle.injector.specs.Senders.{Sender, cues_of, standing_senders, packed}
use Rattle.injector.specs.Noting.{IsBefore, Sending}
use Rattle.injector.proofs.cues.put_due.Given as goal

-- the cues of some events are put, and those of the others are left
abbrev pub invariant-loop-place : goal.invariant-loop-place
invariant-loop-place g l = record {
  leads : g.S.PacketSink.leads l.initial.sink l.sink;
  well : WentWell (g.S.PacketSink.counts l.initial.sink) (g.S.PacketSink.counts l.sink);
  stands : (index : ℕ) (past : List Turn) → RequestsStandFor l.initial.requests index past → RequestsStandFor l.requests index past;
  same_high : high_time_of l.requests.table ≡ high_time_of l.initial.requests.table;
  count : length l.requests.table.entries.items ≡ length l.initial.requests.table.entries.items;
  sent : (puts : List (List ℕ)) (index : ℕ) (past : List Turn) (latest : Option ℤ) → HasPut l.initial.out puts →
      IsBefore l.is_due l.initial.requests l.later index past latest →
      (done : List Sender) × (left : List Sender) × (standing_senders index past ≡ done ++ left) × (l.place ≡ length done) × Sending l.requests (greatest_in past) latest done left
      × HasPut l.out (onto puts (packed l.pid puts (flat_map (cues_of (greatest_in past) latest) done)))
      × ((start : Option (List ℕ)) (ps : List (List ℕ)) → g.S.PacketSink.holds l.initial.sink start ps → g.S.PacketSink.holds l.sink start (ps ++ packed l.pid puts (flat_map (cues_of (greatest_in past) latest) done)));
}

abbrev pub decreases-loop-place : goal.decreases-loop-place
decreases-loop-place g l = length l.requests.table.entries.items - l.place
