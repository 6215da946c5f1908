-- THE THEOREM OF SEVERAL SERVICES: each of them is as if it were alone, and what is none's is the network's.
use Rattle.std.specs.Prelude.{◌≡◌, ℕ, true, not, Bool, List, [], ◌∷◌, ◌++◌, if◌then◌else◌, false, map, filter, flat_map, length, reverse, Option, None, Some, IfSome}
use Rattle.std.specs.List.{AllByRecursion, list_any}
use Rattle.ts_packet.specs.Fields.{on, on_one, is_among}
use Rattle.ts_packet.specs.Packets.{packets_of}
use Rattle.ts_packet.specs.Runs.{Seen, seen_after}
use Rattle.psi_section.specs.Assembling.{capped}
use Rattle.psi_tables.specs.declared.config.Config.{Config}
use Rattle.scte104_codec.specs.Reading.{MessageReading, message_of}
use Rattle.scte104_codec.specs.declared.reply.Reply.{Reply}
use Rattle.program_follower.specs.declared.purpose.Listed.{Listed}
use Rattle.program_follower.specs.Program.{listed, known_pids}
use Rattle.program_follower.specs.Purposes.{writing_cues}
use Rattle.injector.specs.Steps.{Step, turns_in, cued, accepted_in, refused_in}
use Rattle.injector.specs.Steps as injected
use Rattle.ad_library.specs.Advertisements.{Advertisement}
use Rattle.splice_plans.specs.Adverts.{setting_of}
use Rattle.splice_plans.specs.Reporting.{ReportIs, report_of}
use Rattle.splice_plans.specs.Switching.{spliced_network, rest_at}
use Rattle.splice_plans.specs.declared.report.SwitchReport.{SwitchReport}
use Rattle.switch_laws.specs.Clocks.{clocks}
use Rattle.chain_engine.specs.Automation.{Take}
use Rattle.chain_engine.specs.Talks.{HasTalked, messages_judged}
use Rattle.chain_engine.specs.Stops.{first_run_fault}
use Rattle.chain_engine.specs.Runs.{steps_of, steps_before, sent_by, replies_in}
use Rattle.chain_engine.specs.Passing.{chain_at}
use Rattle.chain_engine.specs.ChainRuns.{Ran}
use Rattle.chain_engine.specs.declared.hearing.SessionEnd.{SessionEnd}
use Rattle.chain_engine.specs.declared.report.Report.{Report}
use Rattle.service_laws.specs.Messages.{is_for, reply_of_none}
use Rattle.service_laws.specs.Services.{ServiceTerms, configs_of}
use Rattle.service_laws.specs.Faults.{share_a_pid, first_services_fault}
use Rattle.service_laws.specs.Takes.{own_takes, own_judged}
use Rattle.service_laws.specs.Laws.{all_pids}
use Rattle.chain_laws.specs.Runs.{switched_by, behind_by, played_by}
use Rattle.chain_laws.specs.Tables.{pmt_packets}
use Rattle.chain_laws.specs.UnitSplices.{IsConditionedAt}
use Rattle.chain_laws.specs.Streams.{CarriesPlacedIn, CarriesSpliceIn}
use Rattle.chain_laws.specs.Reports.{counts_by}
use Rattle.chain_services.specs.Serving.{CountsReplies}
use Rattle.chain_services.specs.declared.report.ServiceEvents.{ServiceEvents}
use Rattle.chain_services.specs.declared.report.ServiceReport.{ServiceReport}

-- ---- what came in, and was answered

-- the network's bytes, what the takes of the automation gave, and the replies that it was given, in order
pub record Given : Type 0 where
  pub bytes : List ℕ
  pub takes : List Take
  pub replies : List Reply

-- the messages that were answered, in order
abbrev pub messages_of : Given → List MessageReading
messages_of g = map message_of (messages_judged (length g.replies) g.takes)

-- of these replies those to the messages that a test takes, in order
abbrev pub replies_to : (MessageReading → Bool) → List MessageReading → List Reply → List Reply
replies_to test [] rs = []
replies_to test (m ∷ ms) [] = []
replies_to test (m ∷ ms) (r ∷ rs) = if test m then r ∷ replies_to test ms rs else replies_to test ms rs

-- a message has the index of none of them, or has no index
abbrev pub is_for_none : List ServiceTerms → MessageReading → Bool
is_for_none ts m = not (list_any (λ (t : ServiceTerms). is_for t.config.index m) ts)

-- ---- A RUN OF ONE SERVICE ALONE

-- what its automation gives: before each packet the service's messages that are judged there, and nothing else
abbrev pub takes_alone : Given → Config → List Take
takes_alone g c = own_takes c.index (length g.replies) g.takes (length (packets_of g.bytes))

-- so many messages
abbrev pub judged_alone : Given → Config → ℕ
judged_alone g c = own_judged c.index (length g.replies) g.takes (length (packets_of g.bytes))

-- its history, on the same network
abbrev pub history_alone : Given → Config → List Step
history_alone g c = steps_of (judged_alone g c) (takes_alone g c) (reverse (packets_of g.bytes))

-- what it puts, for one packet, of what is left at the end, and in all
abbrev pub sent_alone : Given → ServiceTerms → Seen → List (List ℕ)
sent_alone g t s = chain_at t.config t.filed s.packet (steps_before (judged_alone g t.config) (takes_alone g t.config) s.past)

abbrev pub left_alone : Given → ServiceTerms → List (List ℕ)
left_alone g t = rest_at (setting_of t.config t.filed) (cued t.config (history_alone g t.config))

abbrev pub output_alone : Given → ServiceTerms → List (List ℕ)
output_alone g t = spliced_network (setting_of t.config t.filed) (sent_by t.config (history_alone g t.config))

-- what it answers
abbrev pub replies_alone : Given → Config → List Reply
replies_alone g c = replies_in c (history_alone g c)

-- and what it reports, where its switch reports this
abbrev pub report_alone : Given → Config → SwitchReport → Report
report_alone g c switch = record {
  messages = capped (injected.judged_in (turns_in c.program (history_alone g c)));
  accepted = capped (accepted_in c.index (turns_in c.program (history_alone g c)));
  refused = capped (refused_in c.index (turns_in c.program (history_alone g c)));
  switch = switch;
}

-- its PIDs: that of its map, and those of its switched streams (ISO/IEC 13818-1, 2.4.4.8)
abbrev pub pids_alone : Given → Config → List ℕ
pids_alone g c = known_pids (Some c.program) (reverse (packets_of g.bytes))

-- ---- EACH SERVICE

-- The headline of a run, of one service's packets in these: what the output of its run alone has is in them.
pub record HasHeadline (out : List (List ℕ)) (c : Config) (filed : ℕ → Option Advertisement) (bs : List ℕ) (steps : List Step) (switch : SwitchReport) : Type 0 where
  -- on any network a switched stream carries its units outside the played breaks, and what goes out of each break where it is reached
  pub placed : (pid : ℕ) → is_among pid (switched_by c steps) ≡ true → CarriesPlacedIn out c filed steps pid
  -- where it is conditioned at the starts of the played breaks, it carries its units outside them with the slice of each reached one in its place
  pub spliced : (pid : ℕ) → is_among pid (switched_by c steps) ≡ true → IsConditionedAt (switched_by c steps) pid (played_by c filed steps) (behind_by c steps) →
      CarriesSpliceIn out c filed steps pid
  -- the clock references of a switched stream are the network's, as one list, in order
  pub clocks : (pid : ℕ) → is_among pid (switched_by c steps) ≡ true → clocks pid out ≡ clocks pid (packets_of bs)
  -- on the PID of its map stand the network's packets up to the PAT, byte for byte, and then its sections behind it, and nothing else
  pub pmt : (l : Listed) → listed (Some c.program) (reverse (packets_of bs)) ≡ Some l → filter (on l.pid) out ≡ pmt_packets c steps l.pid
  -- its breaks are counted
  pub counted : ReportIs switch (counts_by c filed steps)

-- ONE SERVICE OF SEVERAL, beside a run of it alone: what is out, what was answered, and what is counted of its events
pub record IsAsAlone (g : Given) (out : List (List ℕ)) (e : ServiceEvents) (t : ServiceTerms) : Type 0 where
  -- the packets on its PIDs are, as one list, those of that run's output
  pub packets : filter (on_one (pids_alone g t.config)) out ≡ filter (on_one (pids_alone g t.config)) (output_alone g t)
  -- the replies to its messages are that run's
  pub replies : replies_to (is_for t.config.index) (messages_of g) g.replies ≡ replies_alone g t.config
  -- so is what is counted of its events, under its number and index
  pub index : e.index ≡ t.config.index
  pub program : e.program ≡ t.config.program
  pub counts : ReportIs e.switch (report_of (setting_of t.config t.filed) (cued t.config (history_alone g t.config)))
  -- in one: what the theorem of `run` says of that run holds of them, where it has those takes and no session's end
  pub run : Ran t.config t.filed g.bytes (λ ps. filter (on_one (pids_alone g t.config)) ps ≡ filter (on_one (pids_alone g t.config)) out)
      (λ ending ts rs. (ending ≡ None) × (ts ≡ takes_alone g t.config) × (rs ≡ replies_to (is_for t.config.index) (messages_of g) g.replies))
      (report_alone g t.config e.switch)
  -- and so the headline
  pub headline : HasHeadline out t.config t.filed g.bytes (history_alone g t.config) e.switch

-- so it is with each of them, in their order
abbrev pub AreAsAlone : Given → List (List ℕ) → List ServiceEvents → List ServiceTerms → Type 0
AreAsAlone g out [] [] = Unit {0}
AreAsAlone g out [] (t ∷ ts) = ⊥
AreAsAlone g out (e ∷ es) [] = ⊥
AreAsAlone g out (e ∷ es) (t ∷ ts) = IsAsAlone g out e t × AreAsAlone g out es ts

-- ---- ALL OF THEM

-- what stands for a packet: what the run of that service alone sends on whose PIDs it is; else the packet
abbrev pub stands_among : Given → List ServiceTerms → Seen → List (List ℕ)
stands_among g [] s = s.packet ∷ []
stands_among g (t ∷ ts) s = if on_one (known_pids (Some t.config.program) s.past) s.packet then sent_alone g t s else stands_among g ts s

-- none of them finds a fault, and no two share a PID
pub record AreApart (ts : List ServiceTerms) (bs : List ℕ) : Type 0 where
  pub first : first_services_fault (configs_of ts) bs ≡ None
  pub each : AllByRecursion (λ (t : ServiceTerms). first_run_fault (writing_cues t.config) bs ≡ None) ts
  pub pids : share_a_pid (configs_of ts) (reverse (packets_of bs)) ≡ false

-- THE THEOREM. `is_out` says of packets that they stand behind what was there.
pub record Isolated (ts : List ServiceTerms) (bs : List ℕ) (is_out : List (List ℕ) → Type 0)
    (exchanged : Option SessionEnd → List Take → List Reply → Type 0) (report : ServiceReport) : Type 0 where
  -- what the automation gave, up to its session's end, where it has ended, and was answered
  pub ending : Option SessionEnd
  pub takes : List Take
  pub rs : List Reply
  pub talked : HasTalked ending takes (length rs) (length (packets_of bs))
  pub exchanges : exchanged ending takes rs
  -- these packets are out
  pub out : List (List ℕ)
  pub written : is_out out
  -- each service is as if it were alone
  pub each : AreAsAlone (record { bytes = bs; takes = takes; replies = rs }) out report.services.items ts
  -- any other message has the reply of one that is for no service
  pub others : replies_to (is_for_none ts) (messages_of (record { bytes = bs; takes = takes; replies = rs })) rs
      ≡ map reply_of_none (filter (is_for_none ts) (messages_of (record { bytes = bs; takes = takes; replies = rs })))
  -- all messages are counted by their replies
  pub messages : CountsReplies report.messages report.accepted report.refused rs
  -- the packets marked in error and those on PIDs of no service are the network's, as one list, byte for byte
  pub rest : filter (λ q. not (on_one (all_pids ts (reverse (packets_of bs))) q)) out ≡ filter (λ q. not (on_one (all_pids ts (reverse (packets_of bs))) q)) (packets_of bs)
  -- no packet is on a service's PID for cues, but those that are marked in error
  pub no_cues : AllByRecursion (λ (t : ServiceTerms). filter (on t.config.cue_pid) out ≡ []) ts
  -- and all packets are in the network's order: for each of its packets what stands for it, and then what is left, service by service
  pub order : out ≡ flat_map (stands_among (record { bytes = bs; takes = takes; replies = rs }) ts) (seen_after [] (packets_of bs))
      ++ flat_map (left_alone (record { bytes = bs; takes = takes; replies = rs })) ts
  -- none of them finds a fault in the network, and no two share a PID
  pub apart : AreApart ts bs

abbrev pub IsolatesAll : List ServiceTerms → Option (List ℕ) → (List (List ℕ) → Type 0)
    → (Option SessionEnd → List Take → List Reply → Type 0) → ServiceReport → Type 0
IsolatesAll ts input is_out exchanged report = IfSome input (λ bs. Isolated ts bs is_out exchanged report)
