-- The output for a whole network, beside the network.
use Rattle.std.specs.Prelude.{◌≡◌, ℕ, ◌<◌, true, false, ◌++◌, ◌∷◌, List, [], not, Option, None, Some, filter, flat_map, reverse, All}
use Rattle.ts_packet.specs.Fields.{on, pid_of, payload_on, is_among}
use Rattle.std.specs.List.{AllByRecursion}
use Rattle.ts_packet.specs.Runs.{Seen, seen_after, IsGaplessPast}
use Rattle.unit_stream.specs.Units.{units, payloads, lead_in}
use Rattle.unit_stream.specs.Carrying.{CarriesUnits}
use Rattle.unit_stream.specs.UnitPackets.{IsPacked}
use Rattle.event_table.specs.Standing.{Standing}
use Rattle.splice_laws.specs.Splicing.{PlayedEvent, SliceUnit}
use Rattle.splice_laws.specs.Streams.{IsOnce}
use Rattle.program_follower.specs.declared.purpose.Listed.{Listed}
use Rattle.program_follower.specs.Program.{listed, tables, behind_head}
use Rattle.program_laws.specs.Writing.{written, body}
use Rattle.program_laws.specs.Cued.{stripping}
use Rattle.output_laws.specs.Output.{Packing, output, HasComeBefore, AlongMoves}
use Rattle.output_laws.specs.Others.{is_off}
use Rattle.output_laws.specs.Spliced.{placed_payloads}
use Rattle.splice_plans.specs.Known.{adverts_at}
use Rattle.splice_plans.specs.Playing.{Adverts, History, played}
use Rattle.splice_plans.specs.Switching.{Setting, switched_at, events_at, head_at, history_at, front_at, rest_at, switching, switched_past, spliced_network}
use Rattle.splice_plans.specs.Histories.{AreSteady}
use Rattle.switch_laws.specs.Moving.{run_moves, intervals, sent_in_all}
use Rattle.switch_laws.specs.Laws.{ArePackets, PutsArePacked}

-- WHAT STANDS IN THE OUTPUT FOR A PACKET of the network
abbrev pub stands_for : Setting → List ℕ → List (List ℕ) → List (List ℕ)
stands_for k p past = body (switching k) (listed (Some k.program) past) p past (tables (Some k.program) p past) (switched_past k past)

-- THE LAW OF ORDER: across all PIDs, what stands for the packets of the network stands in their order, each behind what is put in before
-- it, and at the end what is put in there
abbrev pub OutputIsInOrder : Type 0
OutputIsInOrder = (k : Setting) (network : List (List ℕ)) →
    spliced_network k network ≡ flat_map (λ (s : Seen). front_at k s.packet s.past ++ stands_for k s.packet s.past) (seen_after [] network) ++ rest_at k (reverse network)

-- ---- where nothing is played

-- THE LAW OF NO PLAYED EVENT: where no event is played in the end, the output is the network without its cues: the packets of their PID are
-- left out, and the program's maps go out without the entry for them
abbrev pub NothingIsPlayed : Type 0
NothingIsPlayed = (k : Setting) (network : List (List ℕ)) → AreSteady (adverts_at k (reverse network)) → ArePackets network →
    played (adverts_at k (reverse network)) (events_at k (reverse network)) ≡ [] →
    spliced_network k network ≡ reverse (written (stripping k.cue_pid) (Some k.program) (reverse network))

-- the PID of the cues, and that of the PMT where the PAT lists the program
abbrev pub pmt_pids : Option Listed → List ℕ
pmt_pids None = []
pmt_pids (Some l) = l.pid ∷ []

abbrev pub table_pids : Setting → List (List ℕ) → List ℕ
table_pids k past = k.cue_pid ∷ pmt_pids (listed (Some k.program) past)

-- then every packet of another PID, and every one marked in error, is the network's byte for byte, in their order across all PIDs
abbrev pub NoPacketChanges : Type 0
NoPacketChanges = (k : Setting) (network : List (List ℕ)) → AreSteady (adverts_at k (reverse network)) → ArePackets network →
    played (adverts_at k (reverse network)) (events_at k (reverse network)) ≡ [] →
    filter (is_off (table_pids k (reverse network))) (spliced_network k network) ≡ filter (is_off (table_pids k (reverse network))) network

-- THE LAW OF NO PROGRAM: where no PAT lists the program, the output is the network without the packets of the cue PID
abbrev pub NoProgram : Type 0
NoProgram = (k : Setting) (network : List (List ℕ)) → listed (Some k.program) (reverse network) ≡ None →
    spliced_network k network ≡ filter (λ p. not (on k.cue_pid p)) network

-- ---- packets put in

-- each unit of the advertisements is packed, whatever the first counter
abbrev pub ArePacked : Packing → Adverts → Type 0
ArePacked packed ads = (e : Standing) (pid : ℕ) → AllByRecursion (λ (u : SliceUnit). (n : ℕ) → n < 16 → IsPacked pid u.payload n (packed pid u n)) (ads.units e pid)

-- the PID of each packet is of 13 bits, as it is where packets are bytes
abbrev pub HavePids : List (List ℕ) → Type 0
HavePids ps = All (λ (p : List ℕ). pid_of p < 8192) ps

-- then all moves of a run are sound
abbrev pub RunsAreSound : Type 0
RunsAreSound = (switched : List ℕ) (ads : Adverts) (events : History) (packed : Packing) (ps : List (List ℕ)) → ArePacked packed ads → HavePids ps →
    PutsArePacked packed (run_moves switched ads events ps)

-- ---- switched streams

-- neither the PID of the cues nor that of the PMT is a switched stream's
pub record TablesAreApart (k : Setting) (past : List (List ℕ)) : Type 0 where
  pub cue : is_among k.cue_pid (switched_at k past) ≡ false
  pub pmt : (l : Listed) → listed (Some k.program) past ≡ Some l → is_among l.pid (switched_at k past) ≡ false

-- the output of the run behind the head
abbrev pub run_out : Setting → List (List ℕ) → List (List ℕ)
run_out k past = output k.packed (run_moves (switched_at k past) (adverts_at k past) (history_at k past) (reverse (behind_head (Some k.program) past)))

-- THE LAW OF STREAMS: the payload packets of a switched PID in the output are those of the head, and those of the run behind it, as if no
-- other packet were there
abbrev pub StreamsGoByThemselves : Type 0
StreamsGoByThemselves = (k : Setting) (network : List (List ℕ)) → TablesAreApart k (reverse network) → (pid : ℕ) → is_among pid (switched_at k (reverse network)) ≡ true →
    filter (payload_on pid) (spliced_network k network)
    ≡ filter (payload_on pid) (reverse (head_at k (reverse network))) ++ filter (payload_on pid) (run_out k (reverse network))

-- ---- the headline's half

-- it is a switched stream, once
abbrev pub IsSwitchedOnce : Setting → List (List ℕ) → ℕ → Type 0
IsSwitchedOnce k past pid = IsOnce pid (switched_at k past)

-- the played events of a network, in order of their starts, and what goes out of each on a PID
abbrev pub breaks : Setting → List (List ℕ) → List PlayedEvent
breaks k past = intervals (adverts_at k past) (events_at k past)

abbrev pub slices : Setting → List (List ℕ) → ℕ → PlayedEvent → List SliceUnit
slices k past pid x = sent_in_all (switched_at k past) (adverts_at k past) (history_at k past) (behind_head (Some k.program) past) pid x

-- what is placed in a switched stream: its units behind the head that lie outside all played events, with what goes out of each reached
-- event before the first unit at or past its start
abbrev pub placed_in : Setting → List (List ℕ) → ℕ → List (List ℕ)
placed_in k past pid = placed_payloads (switched_at k past) pid (breaks k past) (slices k past pid) [] (reverse (behind_head (Some k.program) past))

-- THE OUTPUT OF A NETWORK CARRIES WHAT IS PLACED, on any network: the switched stream's payload packets are those of the head, those behind
-- it before the first unit, unchanged, and then packets that carry what is placed
abbrev pub PlacedIsCarried : Type 0
PlacedIsCarried = (k : Setting) (network : List (List ℕ)) → TablesAreApart k (reverse network) → AreSteady (adverts_at k (reverse network)) →
    ArePacked k.packed (adverts_at k (reverse network)) → ArePackets network → HavePids network → (pid : ℕ) → IsSwitchedOnce k (reverse network) pid →
    (carried : List (List ℕ)) × (filter (payload_on pid) (spliced_network k network)
    ≡ filter (payload_on pid) (reverse (head_at k (reverse network))) ++ (lead_in pid (reverse (behind_head (Some k.program) (reverse network))) ++ carried))
    × CarriesUnits carried (placed_in k (reverse network) pid)

-- ---- gapless streams

-- nothing is put in on the PID before a payload packet of it has come behind the head
abbrev pub IsFedFirst : Setting → List (List ℕ) → ℕ → Type 0
IsFedFirst k past pid =
    AlongMoves (HasComeBefore pid) (reverse (run_moves (switched_at k past) (adverts_at k past) (history_at k past) (reverse (behind_head (Some k.program) past))))

-- The PID's payload packets in the output are those of the head and those of the run behind it. That is gapless with its head, and its units
-- behind the head are what is placed, whatever streams they are read with.
pub record StaysGapless (k : Setting) (network : List (List ℕ)) (pid : ℕ) (read : List ℕ) : Type 0 where
  pub packets : filter (payload_on pid) (spliced_network k network)
      ≡ filter (payload_on pid) (reverse (head_at k (reverse network))) ++ filter (payload_on pid) (run_out k (reverse network))
  pub gapless : IsGaplessPast (reverse (head_at k (reverse network))) pid (run_out k (reverse network))
  pub units_are : payloads (units read pid (run_out k (reverse network))) ≡ placed_in k (reverse network) pid

-- WHERE A SWITCHED STREAM IS GAPLESS, with its head, so it is in the output
abbrev pub StreamsStayGapless : Type 0
StreamsStayGapless = (k : Setting) (network : List (List ℕ)) → TablesAreApart k (reverse network) → AreSteady (adverts_at k (reverse network)) →
    ArePacked k.packed (adverts_at k (reverse network)) → HavePids network → (pid : ℕ) → IsSwitchedOnce k (reverse network) pid → IsFedFirst k (reverse network) pid →
    IsGaplessPast (reverse (head_at k (reverse network))) pid (reverse (behind_head (Some k.program) (reverse network))) →
    (read : List ℕ) → StaysGapless k network pid read
