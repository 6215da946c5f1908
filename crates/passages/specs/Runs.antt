-- Whole runs of the program: which packets go out for the bytes of a network, and what is told. A connection does not tell its pieces, so of
-- runs with one some pieces are spoken of.
use Rattle.std.specs.Prelude.{◌≡◌, ℕ, ◌+◌, ◌^◌, ◌<◌, false, List, [], length, Option, None, IfSome, Result, Ok, Err}
use Rattle.ts_packet.specs.Packets.{packets_of}
use Rattle.ts_packet.specs.declared.sink.PutFault.{PutFault}
use Rattle.unit_cut.specs.Cutting.{cut_between}
use Rattle.unit_cut.specs.FirstFault.{first_fault}
use Rattle.psi_tables.specs.declared.config.Config.{Config}
use Rattle.ad_library.specs.Advertisements.{Advertisement}
use Rattle.splice_plans.specs.declared.report.SwitchReport.{SwitchReport}
use Rattle.scte104_codec.specs.declared.reply.Reply.{Reply}
use Rattle.chain_engine.specs.Automation.{Take}
use Rattle.chain_engine.specs.declared.hearing.SessionEnd.{SessionEnd}
use Rattle.chain_engine.specs.Runs.{Injected, InjectStops}
use Rattle.chain_engine.specs.Splices.{Spliced}
use Rattle.chain_engine.specs.ChainRuns as chain
use Rattle.chain_engine.specs.declared.report.Report.{Report}
use Rattle.service_laws.specs.Services.{ServiceTerms}
use Rattle.chain_services.specs.Runs.{ServicesRan, ServicesStop}
use Rattle.chain_services.specs.declared.report.ServiceReport.{ServiceReport}
use Rattle.chain_engine.specs.declared.faults.RunFault.{RunFault}
use Rattle.automations.specs.ScriptLines.{ScriptLine, GivesLines}
use Rattle.automations.specs.ScriptTakes.{takes_from}
use Rattle.automations.specs.declared.script.Script.{Script}
use Rattle.automations.specs.ScriptAnswers.{reply_lines}
use Rattle.chain_engine.specs.Hearing.{lost_by}
use Rattle.std.specs.Io.KnownBytes.{Appends}
use Rattle.passages.specs.declared.listening.ListenFault.{ListenFault}
use Rattle.passages.specs.declared.listening.ListenFault.TheVariants as listen
use Rattle.passages.specs.declared.fault.ProgramFault.{ProgramFault}
use Rattle.passages.specs.declared.fault.ProgramFault.TheVariants as program
use Rattle.passages.specs.declared.asking.Asker.{Asker}
use Rattle.passages.specs.declared.asking.Asker.TheVariants as asker

-- THE THEOREM of a run that went through: where the bytes of the network are known, the packets that it sends for them are out, and the
-- report is theirs. `is_out` says of packets that they stand behind what was there.
abbrev pub PassesAll : {R : Type 0} → (List ℕ → List (List ℕ) → R → Type 0) → Option (List ℕ) → (List (List ℕ) → Type 0) → R → Type 0
PassesAll passes input is_out report = IfSome input (λ bs. (ps : List (List ℕ)) × passes bs ps report × is_out ps)

-- `cut`: the network has no fault, and these packets are its cut
abbrev pub Cuts : ℕ → ℕ → ℕ → List ℕ → List (List ℕ) → Unit {0} → Type 0
Cuts pid from length bs ps report = (first_fault pid bs ≡ None) × (ps ≡ cut_between from length pid (packets_of bs))

-- ---- what is known of the pieces of messages

-- a script's takes are its lines', before packet after packet from the next one on, for as long as the packets' numbers fit 64 bits
abbrev pub AsksByLines : {W M : Type 0} → Script W M → List Take → Type 0
AsksByLines s ts = (script : List ScriptLine) → GivesLines s script → s.packet + length ts < 2 ^ 64 → ts ≡ takes_from s.packet (length ts) script

-- where no reply to it was lost, what it prints them to has grown by their lines, in order
abbrev pub PrintsReplies : {W M : Type 0} → (W → Option (List ℕ)) → Script W M → Script W M → Option SessionEnd → List Reply → Type 0
PrintsReplies contents s t ending rs = lost_by ending ≡ false → Appends (contents s.replies.writer) (contents t.replies.writer) (reply_lines rs)

-- THE TAKES OF AN ASKER: those of a client are not known
abbrev pub AsksBy : {W L : Type 0} → Asker W L → List Take → Type 0
AsksBy (asker.Script s) ts = AsksByLines s ts
AsksBy (asker.Port listener) ts = Unit {0}

-- THE REPLIES TO AN ASKER, from its state before a run to that behind it: what a client was sent is not told
abbrev pub RepliesTo : {W L : Type 0} → (W → Option (List ℕ)) → Asker W L → Asker W L → Option SessionEnd → List Reply → Type 0
RepliesTo contents (asker.Script s) (asker.Script t) ending rs = PrintsReplies contents s t ending rs
RepliesTo contents (asker.Script s) (asker.Port listener) ending rs = ⊥
RepliesTo contents (asker.Port listener) now ending rs = Unit {0}

-- what it tells of its pieces and of the replies
abbrev pub AskerTells : {W L : Type 0} → (W → Option (List ℕ)) → Asker W L → Asker W L → Option SessionEnd → List Take → List Reply → Type 0
AskerTells contents before now ending ts rs = AsksBy before ts × RepliesTo contents before now ending rs

-- nothing is known of the pieces
abbrev pub Untold : Option SessionEnd → List Take → List Reply → Type 0
Untold ending ts rs = Unit {0}

-- ---- runs with cues; `told` says what is known of the session's end, takes and replies

-- `inject`: the network has no fault, these packets are the cued stream of it and of the pieces of messages, and the report counts these
abbrev pub Cues : Config → (Option SessionEnd → List Take → List Reply → Type 0) → List ℕ → List (List ℕ) → Report → Type 0
Cues c told bs ps report = Injected c bs (λ qs. qs ≡ ps) told report

-- `splice`: the network has no fault, these packets are its spliced stream with the advertisements that are filed so, and the report is by
-- its events
abbrev pub Splices : Config → (ℕ → Option Advertisement) → List ℕ → List (List ℕ) → SwitchReport → Type 0
Splices c filed bs ps report = Spliced c filed bs (λ qs. qs ≡ ps) report

-- `run`: the network has no fault, these packets are the spliced stream of its cued stream, and the report counts messages and events
abbrev pub Plays : Config → (ℕ → Option Advertisement) → (Option SessionEnd → List Take → List Reply → Type 0) → List ℕ
    → List (List ℕ) → Report → Type 0
Plays c filed told bs ps report = chain.Ran c filed bs (λ qs. qs ≡ ps) told report

-- `services`: the network has no fault for one of the services and no two of them share a PID, these packets are their output, and the report
-- counts messages and events
abbrev pub Serves : List ServiceTerms → (Option SessionEnd → List Take → List Reply → Type 0) → List ℕ → List (List ℕ) → ServiceReport → Type 0
Serves services told bs ps report = ServicesRan services bs (λ qs. qs ≡ ps) told report

-- THE THEOREM of a run with cues that stopped: without a client nothing is out; else the fault says what it says of the network and the
-- devices, and what is out is by the pieces of messages
abbrev pub CuesStop : Config → (Option SessionEnd → List Take → List Reply → Type 0) → ListenFault → Option (List ℕ)
    → (List (List ℕ) → Type 0) → (List (List ℕ) → List ℕ → PutFault → Type 0) → (List (List ℕ) → PutFault → Type 0) → Type 0
CuesStop c told listen.Accept input is_out fails unsent = is_out []
CuesStop c told (listen.Run fault) input is_out fails unsent = InjectStops c fault input is_out fails unsent told

-- and of one with cues and advertisements
abbrev pub PlaysStop : Config → (ℕ → Option Advertisement) → (Option SessionEnd → List Take → List Reply → Type 0) → ListenFault
    → Option (List ℕ) → (List (List ℕ) → Type 0) → (List (List ℕ) → List ℕ → PutFault → Type 0) → (List (List ℕ) → PutFault → Type 0) → Type 0
PlaysStop c filed told listen.Accept input is_out fails unsent = is_out []
PlaysStop c filed told (listen.Run fault) input is_out fails unsent = chain.ChainStops c filed fault input is_out fails unsent told

-- and of one of several services
abbrev pub ServesStop : List ServiceTerms → (Option SessionEnd → List Take → List Reply → Type 0) → ListenFault → Option (List ℕ)
    → (List (List ℕ) → Type 0) → (List (List ℕ) → List ℕ → PutFault → Type 0) → (List (List ℕ) → PutFault → Type 0) → Type 0
ServesStop services told listen.Accept input is_out fails unsent = is_out []
ServesStop services told (listen.Run fault) input is_out fails unsent = ServicesStop services fault input is_out fails unsent told

-- this is said of the run's answer, where a client came or none was waited for
abbrev pub IfRan : {R : Type 0} → Result R ListenFault → (Result R RunFault → Type 0) → Type 0
IfRan (Ok report) said = said (Ok report)
IfRan (Err listen.Accept) said = Unit {0}
IfRan (Err (listen.Run fault)) said = said (Err fault)

-- what the program tells of such a fault
abbrev pub told_fault : ListenFault → ProgramFault
told_fault listen.Accept = program.Accept
told_fault (listen.Run fault) = program.Run fault

-- the messages come from the next client of a listener
abbrev pub IsPort : {W L : Type 0} → Asker W L → Type 0
IsPort (asker.Script script) = ⊥
IsPort (asker.Port listener) = Unit {0}

-- how many replies could not be printed; those to a connection are not
abbrev pub lost_replies : {W L : Type 0} → Asker W L → ℕ
lost_replies (asker.Script script) = script.lost
lost_replies (asker.Port listener) = 0
