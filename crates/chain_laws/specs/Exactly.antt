-- A WHOLE RUN of the chain, EXACTLY: which packets are out and in which place, by its requests, the network's packets and the advertisements.
use Rattle.std.specs.Prelude.{◌≡◌, ℕ, true, [], List, Option, None, Some, length, filter, reverse}
use Rattle.wire_fields.specs.Numbers.{AreBytes}
use Rattle.ts_packet.specs.Fields.{on, is_among}
use Rattle.ts_packet.specs.Packets.{packets_of}
use Rattle.psi_tables.specs.declared.config.Config.{Config}
use Rattle.ad_library.specs.Advertisements.{Advertisement}
use Rattle.ad_library.specs.declared.library.AdLibrary.{AdLibrary}
use Rattle.ad_library.specs.Library.{held}
use Rattle.scte104_codec.specs.declared.reply.Reply.{Reply}
use Rattle.injector.specs.Steps.{Step}
use Rattle.splice_plans.specs.Adverts.{setting_of}
use Rattle.splice_plans.specs.Switching.{spliced_network}
use Rattle.splice_plans.specs.Reporting.{ReportIs, report_of}
use Rattle.output_laws.specs.Others.{is_off}
use Rattle.switch_laws.specs.Clocks.{clocks}
use Rattle.program_follower.specs.declared.purpose.Listed.{Listed}
use Rattle.program_follower.specs.Program.{listed}
use Rattle.injector.specs.Steps.{packets_in}
use Rattle.chain_engine.specs.Automation.{Take, bytes_of}
use Rattle.chain_engine.specs.Stops.{first_run_fault}
use Rattle.chain_engine.specs.Runs.{steps_of, sent_by, Serves}
use Rattle.chain_engine.specs.ChainRuns.{Ran, MessagesAre}
use Rattle.chain_engine.specs.declared.hearing.SessionEnd.{SessionEnd}
use Rattle.chain_engine.specs.declared.report.Report.{Report}
use Rattle.chain_laws.specs.Runs.{network_of, switched_by, behind_by, played_by, output_by}
use Rattle.chain_laws.specs.Tables.{HasTables, pmt_packets}
use Rattle.chain_laws.specs.UnitSplices.{IsConditionedAt}
use Rattle.chain_laws.specs.Streams.{CarriesPlaced, CarriesSplice}
use Rattle.chain_laws.specs.Others.{touched_by, IsUnplayed}
use Rattle.chain_laws.specs.Order.{IsInOrder}
use Rattle.chain_laws.specs.Reports.{counts_by}
use Rattle.program_follower.specs.Purposes.{writing_cues}

-- THE HISTORY of a run over these bytes, newest first: the network's packets, and before each the messages whose last byte stands in the take
-- before it; so many are judged as there are replies
abbrev pub history_of : List ℕ → List Take → List Reply → List Step
history_of bs ts rs = steps_of (length rs) ts (reverse (packets_of bs))

-- What is asked of values that no run gave: the network's bytes are bytes, and so are those of the automation.
pub record IsGiven (bs : List ℕ) (ts : List Take) : Type 0 where
  pub network : AreBytes bs
  pub automation : AreBytes (bytes_of ts)

-- WHAT THE OUTPUT IS
pub record IsSpliced (c : Config) (filed : ℕ → Option Advertisement) (steps : List Step) : Type 0 where
  -- on any network a switched stream carries its units outside the played breaks, and what goes out of each break where it is reached
  pub placed : (pid : ℕ) → is_among pid (switched_by c steps) ≡ true → CarriesPlaced c filed steps pid
  -- where it is conditioned at the starts of the played breaks, it carries its units outside them with the slice of each reached one in its place
  pub spliced : (pid : ℕ) → is_among pid (switched_by c steps) ≡ true → IsConditionedAt (switched_by c steps) pid (played_by c filed steps) (behind_by c steps) →
      CarriesSplice c filed steps pid
  -- the clock references of a switched stream are the network's, as one list, in order
  pub clocks : (pid : ℕ) → is_among pid (switched_by c steps) ≡ true → clocks pid (output_by c filed steps) ≡ clocks pid (network_of steps)
  -- the packets marked in error, and those of all other PIDs, are one list, byte for byte
  pub others : filter (is_off (touched_by c steps)) (output_by c filed steps) ≡ filter (is_off (touched_by c steps)) (network_of steps)
  -- across all PIDs the output is in the network's order, and each packet of the network stands in it as the rules say
  pub order : IsInOrder c filed steps
  -- a reader finds the network's PAT and sections, and no packet is of the cue PID, but those that are marked in error
  pub tables : HasTables c filed steps
  -- on the PID of the PMT stand the network's packets up to the PAT, byte for byte, and then its sections behind it, and nothing else
  pub pmt : (l : Listed) → listed (Some c.program) (packets_in steps) ≡ Some l → filter (on l.pid) (output_by c filed steps) ≡ pmt_packets c steps l.pid
  -- where no PAT lists the program, it is the network
  pub no_program : listed (Some c.program) (packets_in steps) ≡ None → output_by c filed steps ≡ network_of steps
  -- where no break is played, it is the network but on the PID of the PMT, and its sections are the network's
  pub no_break : played_by c filed steps ≡ [] → IsUnplayed c filed steps

-- A RUN over these bytes that answers with this report, EXACTLY
pub record RanExactly (c : Config) (filed : ℕ → Option Advertisement) (bs : List ℕ) (is_out : List (List ℕ) → Type 0)
    (exchanged : Option SessionEnd → List Take → List Reply → Type 0) (report : Report) : Type 0 where
  pub ts : List Take
  pub rs : List Reply
  -- each message is answered by its verdict
  pub serves : Serves c exchanged ts rs (length (packets_of bs)) (history_of bs ts rs)
  pub messages : MessagesAre report c (history_of bs ts rs)
  -- the packets of the history are the network's
  pub network : network_of (history_of bs ts rs) ≡ packets_of bs
  -- these packets are out
  pub written : is_out (output_by c filed (history_of bs ts rs))
  pub output : IsSpliced c filed (history_of bs ts rs)
  -- the breaks are counted
  pub counted : ReportIs report.switch (counts_by c filed (history_of bs ts rs))

-- each run that answers so, with what a library holds, is so
abbrev pub RunsAreSo : Type 1
RunsAreSo = (A : Type 0) (library : AdLibrary A) (c : Config) (bs : List ℕ) (is_out : List (List ℕ) → Type 0)
    (exchanged : Option SessionEnd → List Take → List Reply → Type 0) (report : Report) →
    Ran c (held library) bs is_out exchanged report → RanExactly c (held library) bs is_out exchanged report

-- ---- the same, of all takes and replies

-- the packets of the history are the network's; what a switch makes of the cued stream is the output; and what it reports are these counts
pub record IsHistorySo (c : Config) (filed : ℕ → Option Advertisement) (bs : List ℕ) (ts : List Take) (rs : List Reply) : Type 0 where
  pub network : network_of (history_of bs ts rs) ≡ packets_of bs
  pub written : spliced_network (setting_of c filed) (sent_by c (history_of bs ts rs)) ≡ output_by c filed (history_of bs ts rs)
  pub output : IsGiven bs ts → IsSpliced c filed (history_of bs ts rs)
  pub counted : IsGiven bs ts → report_of (setting_of c filed) (reverse (sent_by c (history_of bs ts rs))) ≡ counts_by c filed (history_of bs ts rs)

-- THE LAW OF THE HEADLINE: of a network without a fault, whatever was taken and answered, the output and the report are these
abbrev pub HistoriesAreSo : (ℕ → Option Advertisement) → Type 0
HistoriesAreSo filed = (c : Config) (bs : List ℕ) → first_run_fault (writing_cues c) bs ≡ None → (ts : List Take) (rs : List Reply) → IsHistorySo c filed bs ts rs
