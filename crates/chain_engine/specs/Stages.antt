-- What the stages of the runs say of themselves: what each sends for the packets that it was given, how it refuses one, how its sink fails, and how
-- it ends.
use Rattle.std.specs.Prelude.{◌≡◌, ℕ, suc, List, ◌++◌, length, reverse, Option, None, Some}
use Rattle.ts_packet.specs.Packets.{packets_of}
use Rattle.psi_tables.specs.declared.config.Config.{Config}
use Rattle.program_follower.specs.Purposes.{reading_cues, writing_cues}
use Rattle.scte104_codec.specs.Reading.{MessageReading}
use Rattle.scte104_codec.specs.declared.reply.Reply.{Reply}
use Rattle.outgoing_packets.specs.Numbers.{FrontFails}
use Rattle.injector.specs.Injecting.{InjectorStandsFor}
use Rattle.injector.specs.Steps.{Step, cued, sent_at}
use Rattle.ad_library.specs.Advertisements.{Advertisement}
use Rattle.splice_plans.specs.declared.report.SwitchReport.{SwitchReport}
use Rattle.splice_plans.specs.Adverts.{setting_of}
use Rattle.splice_plans.specs.Switching.{switched_at_packet, rest_at}
use Rattle.splice_switch.specs.declared.switch.Switch.{Switch}
use Rattle.splice_switch.specs.Standing.{SwitchStandsFor}
use Rattle.chain_engine.specs.Automation.{Take}
use Rattle.chain_engine.specs.Talks.{TalkStandsFor}
use Rattle.chain_engine.specs.Chains.{ChainStandsFor}
use Rattle.chain_engine.specs.Stops.{first_run_fault}
use Rattle.chain_engine.specs.Runs.{steps_of, replies_by, reply_in, sent_by, Injected, ServedBefore}
use Rattle.chain_engine.specs.Splices.{switch_sends, Spliced}
use Rattle.chain_engine.specs.Passing.{ServiceStandsFor, chain_at}
use Rattle.chain_engine.specs.ChainRuns.{chain_sends, Ran}
use Rattle.chain_engine.specs.declared.hearing.SessionEnd.{SessionEnd}
use Rattle.chain_engine.specs.declared.report.Report.{Report}
use Rattle.chain_engine.specs.declared.chain.Chain.{Chain}
use Rattle.chain_engine.specs.declared.service.Service.{Service}
use Rattle.chain_engine.specs.declared.talk.Talk.{Talk}

-- Who judges messages and a talk have come so far between two packets: these were passed on, and of the steps is said what is out by them.
-- `stands` says of the judge and steps that it has gone them, `rule` which reply a message has, and `exchanged` of a session's end, takes and
-- replies that they came.
pub record HasRun {J M : Type 0} (stands : J → List Step → Type 0) (rule : MessageReading → List Step → Reply) (judge : J) (talk : Talk M)
    (is_out : List Step → Type 0) (exchanged : Option SessionEnd → List Take → List Reply → Type 0) (ps : List (List ℕ)) : Type 0 where
  pub ts : List Take
  pub rs : List Reply
  pub gone : stands judge (steps_of (length rs) ts (reverse ps))
  pub talks : TalkStandsFor talk ts (length rs) (length ps)
  pub exchanges : exchanged talk.end ts rs
  pub replies : rs ≡ replies_by rule (steps_of (length rs) ts (reverse ps))
  pub out : is_out (steps_of (length rs) ts (reverse ps))

-- ---- an injector

abbrev pub InjectsFor : Config → Service → List Step → Type 0
InjectsFor c service steps = InjectorStandsFor service.injector c steps

-- a chain that was given nothing has passed these packets on through its injector, and sent these
pub record InjectSends {M : Type 0} (first now : Chain M) (exchanged : Option SessionEnd → List Take → List Reply → Type 0)
    (ps qs : List (List ℕ)) : Type 0 where
  pub begins : ChainStandsFor first first.service.config
  pub run : HasRun (InjectsFor first.service.config) (reply_in first.service.config) now.service now.talk
      (λ steps. sent_by first.service.config steps ≡ qs) exchanged ps

-- the automation was heard before a packet that was refused
abbrev pub InjectRefuses : Config → (Option SessionEnd → List Take → List Reply → Type 0) → List (List ℕ) → List (List ℕ) → List ℕ → Type 0
InjectRefuses c exchanged ps qs p = ServedBefore (reply_in c) exchanged (suc (length ps)) (λ steps. sent_by c steps ≡ qs) ps

-- and before one at which the sink failed, behind a front of what it sends; at the end nothing is left
abbrev pub InjectBreaks : Config → (Option SessionEnd → List Take → List Reply → Type 0) → List (List ℕ) → Option (List ℕ)
    → List (List ℕ) → List ℕ → Type 0
InjectBreaks c exchanged ps (Some p) put q = ServedBefore (reply_in c) exchanged (suc (length ps))
    (λ steps. FrontFails (sent_at c p steps) (λ front r. (sent_by c steps ++ front ≡ put) × (r ≡ q))) ps
InjectBreaks c exchanged ps None put q = ⊥

-- all went through
abbrev pub InjectEnds : Config → (Option SessionEnd → List Take → List Reply → Type 0) → List (List ℕ) → List (List ℕ) → Report → Type 0
InjectEnds c exchanged ps sent report =
    (bs : List ℕ) → packets_of bs ≡ ps → first_run_fault (writing_cues c) bs ≡ None → Injected c bs (λ l. l ≡ sent) exchanged report

-- ---- a switch

pub record SpliceSends (switch : Switch) (c : Config) (filed : ℕ → Option Advertisement) (ps qs : List (List ℕ)) : Type 0 where
  pub stands : SwitchStandsFor switch c filed (reverse ps)
  pub sent : switch_sends c filed ps ≡ qs

abbrev pub SpliceBreaks : Config → (ℕ → Option Advertisement) → List (List ℕ) → Option (List ℕ) → List (List ℕ) → List ℕ → Type 0
SpliceBreaks c filed ps (Some p) put q = FrontFails (switched_at_packet (setting_of c filed) p (reverse ps))
    (λ front r. (switch_sends c filed ps ++ front ≡ put) × (r ≡ q))
SpliceBreaks c filed ps None put q = FrontFails (rest_at (setting_of c filed) (reverse ps))
    (λ front r. (switch_sends c filed ps ++ front ≡ put) × (r ≡ q))

abbrev pub SpliceEnds : Config → (ℕ → Option Advertisement) → List (List ℕ) → List (List ℕ) → SwitchReport → Type 0
SpliceEnds c filed ps sent report =
    (bs : List ℕ) → packets_of bs ≡ ps → first_run_fault (reading_cues c) bs ≡ None → Spliced c filed bs (λ l. l ≡ sent) report

-- ---- a chain

abbrev pub ServesFor : Config → (ℕ → Option Advertisement) → Service → List Step → Type 0
ServesFor c filed service steps = ServiceStandsFor service c filed steps

pub record ChainSends {M : Type 0} (first now : Chain M) (filed : ℕ → Option Advertisement)
    (exchanged : Option SessionEnd → List Take → List Reply → Type 0) (ps qs : List (List ℕ)) : Type 0 where
  pub begins : ChainStandsFor first first.service.config
  pub run : HasRun (ServesFor first.service.config filed) (reply_in first.service.config) now.service now.talk
      (λ steps. chain_sends first.service.config filed steps ≡ qs) exchanged ps

abbrev pub ChainRefuses : Config → (ℕ → Option Advertisement) → (Option SessionEnd → List Take → List Reply → Type 0)
    → List (List ℕ) → List (List ℕ) → List ℕ → Type 0
ChainRefuses c filed exchanged ps qs p = ServedBefore (reply_in c) exchanged (suc (length ps)) (λ steps. chain_sends c filed steps ≡ qs) ps

abbrev pub ChainBreaks : Config → (ℕ → Option Advertisement) → (Option SessionEnd → List Take → List Reply → Type 0)
    → List (List ℕ) → Option (List ℕ) → List (List ℕ) → List ℕ → Type 0
ChainBreaks c filed exchanged ps (Some p) put q = ServedBefore (reply_in c) exchanged (suc (length ps))
    (λ steps. FrontFails (chain_at c filed p steps) (λ front r. (chain_sends c filed steps ++ front ≡ put) × (r ≡ q))) ps
ChainBreaks c filed exchanged ps None put q = ServedBefore (reply_in c) exchanged (length ps)
    (λ steps. FrontFails (rest_at (setting_of c filed) (cued c steps)) (λ front r. (chain_sends c filed steps ++ front ≡ put) × (r ≡ q))) ps

abbrev pub ChainEnds : Config → (ℕ → Option Advertisement) → (Option SessionEnd → List Take → List Reply → Type 0) → List (List ℕ)
    → List (List ℕ) → Report → Type 0
ChainEnds c filed exchanged ps sent report =
    (bs : List ℕ) → packets_of bs ≡ ps → first_run_fault (writing_cues c) bs ≡ None → Ran c filed bs (λ l. l ≡ sent) exchanged report
