-- What holds of every spliced stream behind its head, over the definitions alone.
use Rattle.std.specs.Prelude.{◌≡◌, ℕ, ◌++◌, List, [], Option, map, filter, reverse, length, All}
use Rattle.ts_packet.specs.Fields.{payload_on}
use Rattle.ts_packet.specs.Runs.{IsGaplessAfter}
use Rattle.unit_stream.specs.Times.{high}
use Rattle.unit_stream.specs.Units.{units, payloads, lead_in}
use Rattle.unit_stream.specs.Carrying.{CarriesUnits}
use Rattle.splice_laws.specs.Splicing.{stream}
use Rattle.splice_laws.specs.Laws.{AreOrdered, IsConditioned}
use Rattle.splice_laws.specs.Rows.{carried_items, placed_units, splice_units}
use Rattle.splice_laws.specs.Streams.{IsOnce, of_stream}
use Rattle.output_laws.specs.Output.{Move, Keep, acts, network, Packing, output, Sound, HasComeBefore, AlongMoves}
use Rattle.output_laws.specs.Others.{is_off}
use Rattle.output_laws.specs.Spliced.{moves_after, placed_payloads}
use Rattle.splice_plans.specs.Playing.{Adverts, History, played}
use Rattle.splice_plans.specs.Histories.{IsHistory, AreSteady}
use Rattle.switch_laws.specs.Moving.{run_moves, intervals, sent_in_all, sent_count}

-- THE MOVES BRING THE NETWORK: each of its packets once, in order
abbrev pub MovesBringTheNetwork : Type 0
MovesBringTheNetwork = (switched : List ℕ) (ads : Adverts) (events : History) (ps : List (List ℕ)) → network (run_moves switched ads events ps) ≡ ps

-- What the other laws stand on: advertisements that go by an event's program, its start and the length first asked for; and events to
-- which, where the greatest time is that of the switched streams, no more becomes than cues can bring about.
pub record IsPlayable (switched : List ℕ) (ads : Adverts) (events : History) : Type 0 where
  pub steady : AreSteady ads
  pub history : IsHistory (high switched) events

-- THE LAW OF SETTLEMENT, FOR ALL MOVES: what was done by what was known at each packet is what the events of the end say of it, and those
-- never meet
pub record IsSettledRun (switched : List ℕ) (ads : Adverts) (events : History) (ps : List (List ℕ)) : Type 0 where
  pub ordered : AreOrdered (intervals ads (events (reverse ps)))
  pub moves : run_moves switched ads events ps
      ≡ moves_after switched (intervals ads (events (reverse ps))) (sent_in_all switched ads events (reverse ps)) (sent_count switched ads events (reverse ps)) [] ps

abbrev pub RunsAreSettled : Type 0
RunsAreSettled = (switched : List ℕ) (ads : Adverts) (events : History) → IsPlayable switched ads events → (ps : List (List ℕ)) → IsSettledRun switched ads events ps

-- ---- rows

-- THE LAW OF PLACES: of a switched stream stand the packets before its first unit start, and then its units outside all played events, each
-- with its packets, with all that goes out of each reached event before the first unit at or past its start
abbrev pub RowsArePlaced : Type 0
RowsArePlaced = (switched : List ℕ) (ads : Adverts) (events : History) → IsPlayable switched ads events → (ps : List (List ℕ)) (pid : ℕ) → IsOnce pid switched →
    of_stream pid (acts (run_moves switched ads events ps))
    ≡ carried_items pid ps (placed_units switched pid (intervals ads (events (reverse ps))) (sent_in_all switched ads events (reverse ps) pid) ps)

-- THE LAW OF THE SPLICE: where the network is conditioned at the starts, these are their places by time
abbrev pub RowsAreSpliced : Type 0
RowsAreSpliced = (switched : List ℕ) (ads : Adverts) (events : History) → IsPlayable switched ads events → (ps : List (List ℕ)) (pid : ℕ) → IsOnce pid switched →
    IsConditioned (stream switched pid) (intervals ads (events (reverse ps))) ps →
    of_stream pid (acts (run_moves switched ads events ps))
    ≡ carried_items pid ps (splice_units switched pid (intervals ads (events (reverse ps))) (sent_in_all switched ads events (reverse ps) pid) ps)

-- ---- packets

abbrev pub ArePackets : List (List ℕ) → Type 0
ArePackets ps = All (λ (p : List ℕ). length p ≡ 188) ps

-- each unit that is put in is packed, whatever the first counter; the PIDs of the packets left out are of 13 bits
abbrev pub PutsArePacked : Packing → List Move → Type 0
PutsArePacked packed moves = AlongMoves (λ (s : Move) (past : List Move). Sound packed s) (reverse moves)

-- THE OUTPUT CARRIES WHAT IS PLACED, on any network
abbrev pub RunsCarry : Type 0
RunsCarry = (switched : List ℕ) (ads : Adverts) (events : History) → IsPlayable switched ads events → (packed : Packing) (ps : List (List ℕ)) → ArePackets ps →
    PutsArePacked packed (run_moves switched ads events ps) → (pid : ℕ) → IsOnce pid switched →
    (carried : List (List ℕ)) × (filter (payload_on pid) (output packed (run_moves switched ads events ps)) ≡ lead_in pid ps ++ carried)
    × CarriesUnits carried (placed_payloads switched pid (intervals ads (events (reverse ps))) (sent_in_all switched ads events (reverse ps) pid) [] ps)

-- WHERE THE NETWORK IS GAPLESS on the PID, and it has a payload packet before its first unit put in, so is the output, and its units are these
abbrev pub RunsHaveUnits : Type 0
RunsHaveUnits = (switched : List ℕ) (ads : Adverts) (events : History) → IsPlayable switched ads events → (packed : Packing) (ps : List (List ℕ)) →
    PutsArePacked packed (run_moves switched ads events ps) → (pid : ℕ) → IsOnce pid switched → AlongMoves (HasComeBefore pid) (reverse (run_moves switched ads events ps)) →
    (before : Option (List ℕ)) → IsGaplessAfter before pid ps → (read : List ℕ) →
    IsGaplessAfter before pid (output packed (run_moves switched ads events ps))
    × (payloads (units read pid (output packed (run_moves switched ads events ps)))
    ≡ placed_payloads switched pid (intervals ads (events (reverse ps))) (sent_in_all switched ads events (reverse ps) pid) [] ps)

-- THE PACKETS OF ALL OTHER PIDS, and those marked in error, are the same list, byte for byte
abbrev pub RunsKeepOthers : Type 0
RunsKeepOthers = (switched : List ℕ) (ads : Adverts) (events : History) → IsPlayable switched ads events → (packed : Packing) (ps : List (List ℕ)) → ArePackets ps →
    PutsArePacked packed (run_moves switched ads events ps) → filter (is_off switched) (output packed (run_moves switched ads events ps)) ≡ filter (is_off switched) ps

-- NO PLAYED EVENT: where none of the events is played in the end, every packet is kept, and nothing is put in
abbrev pub NothingPlayed : Type 0
NothingPlayed = (switched : List ℕ) (ads : Adverts) (events : History) → IsPlayable switched ads events → (ps : List (List ℕ)) → played ads (events (reverse ps)) ≡ [] →
    run_moves switched ads events ps ≡ map (λ (p : List ℕ). Keep p) ps
