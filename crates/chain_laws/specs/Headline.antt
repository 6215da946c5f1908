-- THE HEADLINE: what is out of a whole run of the chain, by its requests, the network's packets and the advertisements. Which packet is put in at
-- which place, and what the cues are that go between, is `RanExactly` of Exactly.
use Rattle.std.specs.Prelude.{◌≡◌, ℕ, ℤ, ◌≤ℤ◌, ◌++◌, ◌&&◌, true, List, [], if◌then◌else◌, Option, None, Some, length, filter, reverse, count_by}
use Rattle.std.specs.List.{AllByRecursion}
use Rattle.ts_packet.specs.Fields.{on, payload_on, is_among}
use Rattle.ts_packet.specs.Packets.{packets_of}
use Rattle.unit_stream.specs.Carrying.{CarriesUnits}
use Rattle.psi_section.specs.Assembling.{capped}
use Rattle.psi_tables.specs.declared.config.Config.{Config}
use Rattle.event_table.specs.Standing.{Standing, end_of}
use Rattle.program_follower.specs.Program.{listed, all_tables}
use Rattle.ad_library.specs.Advertisements.{Advertisement}
use Rattle.scte104_codec.specs.declared.reply.Reply.{Reply}
use Rattle.injector.specs.Steps.{Step, packets_in}
use Rattle.splice_laws.specs.Splicing.{PlayedEvent, SliceUnit}
use Rattle.splice_laws.specs.Ends.{up_to_end}
use Rattle.output_laws.specs.Spliced.{placed_payloads}
use Rattle.output_laws.specs.Others.{is_off}
use Rattle.splice_plans.specs.Playing.{played, as_played, is_played}
use Rattle.splice_plans.specs.Reporting.{is_not_fitted, is_unconditioned}
use Rattle.splice_plans.specs.declared.report.SwitchReport.{SwitchReport}
use Rattle.switch_laws.specs.Clocks.{clocks}
use Rattle.chain_engine.specs.Automation.{Take}
use Rattle.chain_engine.specs.Runs.{Serves}
use Rattle.chain_engine.specs.ChainRuns.{MessagesAre}
use Rattle.chain_engine.specs.declared.hearing.SessionEnd.{SessionEnd}
use Rattle.chain_engine.specs.declared.report.Report.{Report}
use Rattle.chain_laws.specs.Breaks.{accepted_by}
use Rattle.chain_laws.specs.Exactly.{history_of}
use Rattle.chain_laws.specs.Others.{table_pids_by, touched_by}
use Rattle.chain_laws.specs.Runs.{network_of, switched_by, behind_by, run_by, lead_by, adverts_by, played_by}
use Rattle.chain_laws.specs.Streams.{GoesOutWhole, CarriesSpliceIn, is_reached}
use Rattle.chain_laws.specs.UnitSplices.{IsConditionedAt}

-- Whatever units step back, what goes out of a break is a slice: where the stream reaches the break, all units of its advertisement's stream before
-- an end that is not before the last one; and nothing where it does not reach it.
pub record GoesOutAsSlice (c : Config) (filed : ℕ → Option Advertisement) (steps : List Step) (pid : ℕ) (sent : PlayedEvent → List SliceUnit) (e : Standing) : Type 0 where
  pub stop : ℤ
  pub last : end_of e ≤ℤ stop
  pub goes : sent (as_played e) ≡ (if is_reached (switched_by c steps) pid (behind_by c steps) e then up_to_end stop ((adverts_by c filed steps).units e pid) else [])

-- PLACED, in these packets, on any network: the stream's payload packets are its lead, unchanged, and then packets that carry its units outside all
-- played breaks, in order, with what goes out of each reached break before the first unit at or past its start
pub record CarriesBreaks (out : List (List ℕ)) (c : Config) (filed : ℕ → Option Advertisement) (steps : List Step) (pid : ℕ) : Type 0 where
  pub sent : PlayedEvent → List SliceUnit
  pub slices : AllByRecursion (GoesOutAsSlice c filed steps pid sent) (played (adverts_by c filed steps) (accepted_by c steps))
  pub whole : AllByRecursion (GoesOutWhole c filed steps pid sent) (played (adverts_by c filed steps) (accepted_by c steps))
  pub carried : List (List ℕ)
  pub packets : filter (payload_on pid) out ≡ lead_by c steps pid ++ carried
  pub carries : CarriesUnits carried (placed_payloads (switched_by c steps) pid (played_by c filed steps) sent [] (run_by c steps))

-- WHAT IS OUT
pub record IsNetworkSpliced (out : List (List ℕ)) (c : Config) (filed : ℕ → Option Advertisement) (steps : List Step) : Type 0 where
  -- on any network a switched stream carries its units outside the played breaks, and what goes out of each break where it is reached
  pub placed : (pid : ℕ) → is_among pid (switched_by c steps) ≡ true → CarriesBreaks out c filed steps pid
  -- where it is conditioned at the starts of the played breaks, it carries its units outside them with the slice of each reached one in its place
  pub spliced : (pid : ℕ) → is_among pid (switched_by c steps) ≡ true → IsConditionedAt (switched_by c steps) pid (played_by c filed steps) (behind_by c steps) →
      CarriesSpliceIn out c filed steps pid
  -- the clock references of a switched stream are the network's, as one list, in order
  pub clocks : (pid : ℕ) → is_among pid (switched_by c steps) ≡ true → clocks pid out ≡ clocks pid (network_of steps)
  -- the packets marked in error, and those of all other PIDs, are one list, byte for byte
  pub others : filter (is_off (touched_by c steps)) out ≡ filter (is_off (touched_by c steps)) (network_of steps)
  -- the PAT gives the program the same PID for its PMT, and behind it stand on that PID the network's sections, all of them, in their order
  pub pat : listed (Some c.program) (reverse out) ≡ listed (Some c.program) (packets_in steps)
  pub tables : all_tables (Some c.program) (reverse out) ≡ all_tables (Some c.program) (packets_in steps)
  -- no packet is of the cue PID, but those that are marked in error
  pub no_cues : filter (on c.cue_pid) out ≡ []
  -- where no PAT lists the program, it is the network
  pub no_program : listed (Some c.program) (packets_in steps) ≡ None → out ≡ network_of steps
  -- where no break is played, it is the network but on the PID of the PMT
  pub no_break : played_by c filed steps ≡ [] → filter (is_off (table_pids_by c steps)) out ≡ filter (is_off (table_pids_by c steps)) (network_of steps)

-- THE COUNTS of accepted events: those that are played; those without an advertisement that fits; and the played ones at whose start or last end
-- some switched stream is not conditioned. Each stops at the greatest u64.
pub record CountsBreaks (report : SwitchReport) (c : Config) (filed : ℕ → Option Advertisement) (steps : List Step) : Type 0 where
  pub played : report.played ≡ capped (count_by (is_played (adverts_by c filed steps)) (accepted_by c steps))
  pub not_fitted : report.not_fitted ≡ capped (count_by (is_not_fitted (adverts_by c filed steps)) (accepted_by c steps))
  pub unconditioned : report.unconditioned ≡ capped (count_by (λ e. is_played (adverts_by c filed steps) e && is_unconditioned (switched_by c steps) (behind_by c steps) e)
      (accepted_by c steps))

-- THE HEADLINE of a run over these bytes that answers with this report: these packets are out, of which all this holds
pub record Headline (c : Config) (filed : ℕ → Option Advertisement) (bs : List ℕ) (is_out : List (List ℕ) → Type 0)
    (exchanged : Option SessionEnd → List Take → List Reply → Type 0) (report : Report) : Type 0 where
  pub ts : List Take
  pub rs : List Reply
  pub out : List (List ℕ)
  pub written : is_out out
  -- each message is answered by its verdict
  pub serves : Serves c exchanged ts rs (length (packets_of bs)) (history_of bs ts rs)
  pub messages : MessagesAre report c (history_of bs ts rs)
  -- the packets of the history are the network's
  pub network : network_of (history_of bs ts rs) ≡ packets_of bs
  pub output : IsNetworkSpliced out c filed (history_of bs ts rs)
  pub counted : CountsBreaks report.switch c filed (history_of bs ts rs)
