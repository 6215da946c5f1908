-- Whole runs: what is put and answered, by the network's bytes and what the automation gave; what a fault says, and
-- what the devices did there.
use Rattle.std.specs.Prelude.{◌+◌, ◌≡◌, ◌⊎◌, ℕ, suc, List, [], ◌∷◌, ◌++◌, Bool, Option, None, IfSome, length, reverse}
use Rattle.splice_plans.specs.Reporting.{events_sum}
use Rattle.ts_packet.specs.Packets.{packets_of}
use Rattle.ts_packet.specs.Sources.{ReadSo, ReadOn, RunBlamed}
use Rattle.ts_packet.specs.Sinks.{Blamed}
use Rattle.ts_packet.specs.Transfers.{WentWell}
use Rattle.ts_packet.specs.declared.tally.Tally.{Tally}
use Rattle.ts_packet.specs.declared.sink.PutFault.{PutFault}
use Rattle.psi_section.specs.Assembling.{capped}
use Rattle.psi_tables.specs.declared.config.Config.{Config}
use Rattle.psi_tables.specs.declared.network.FeedFault.TheVariants.{Network, Sink, Failed}
use Rattle.scte104_codec.specs.declared.reply.Reply.{Reply}
use Rattle.scte104_codec.specs.Reading.{MessageReading, message_of}
use Rattle.outgoing_packets.specs.Numbers.{FrontFails}
use Rattle.splice_plans.specs.declared.report.SwitchReport.{SwitchReport}
use Rattle.injector.specs.Replies.{reply_to}
use Rattle.injector.specs.Steps.{Step, Message, Packet, turns_in, cued, sent_at, judged_in, accepted_in}
use Rattle.injector.specs.Steps.{refused_in}
use Rattle.wire_fields.specs.Numbers.{AreBytes}
use Rattle.chain_engine.specs.Automation.{Take, Exchange, bytes_of}
use Rattle.chain_engine.specs.Hearing.{answers_to, lost_by}
use Rattle.chain_engine.specs.Talks.{judged_before, exchanges_of, HasTalked, CountsEnd}
use Rattle.chain_engine.specs.Stops.{first_run_fault, IsLeftBy, IfSink, StopsBy}
use Rattle.chain_engine.specs.declared.hearing.SessionEnd.{SessionEnd}
use Rattle.chain_engine.specs.declared.report.Report.{Report}
use Rattle.chain_engine.specs.declared.faults.RunFault.{RunFault}
use Rattle.chain_engine.specs.declared.faults.RunFault.TheVariants.{Read, Feed, SharedPid}
use Rattle.program_follower.specs.Purposes.{writing_cues}

-- ---- the history of a run

-- these messages, judged in order behind a history
abbrev pub asked : List (List ℕ) → List Step → List Step
asked [] past = past
asked (m ∷ ms) past = asked ms (Message (message_of m) ∷ past)

-- THE STEPS up to these packets, newest first: before each packet the messages whose last byte stands in the take
-- before it
abbrev pub steps_of : ℕ → List Take → List (List ℕ) → List Step
steps_of most takes [] = []
steps_of most takes (p ∷ past) = Packet p ∷ asked (judged_before most takes (length past)) (steps_of most takes past)

-- and the messages before the packet behind them
abbrev pub steps_before : ℕ → List Take → List (List ℕ) → List Step
steps_before most takes past = asked (judged_before most takes (length past)) (steps_of most takes past)

-- the replies of a history, in order, each by a rule of its message and the steps before it
abbrev pub replies_by : (MessageReading → List Step → Reply) → List Step → List Reply
replies_by rule [] = []
replies_by rule (Message m ∷ past) = replies_by rule past ++ rule m past ∷ []
replies_by rule (Packet p ∷ past) = replies_by rule past

-- THE REPLY of a chain: by the verdict at the steps before the message
abbrev pub reply_in : Config → MessageReading → List Step → Reply
reply_in c m past = reply_to c.index m (turns_in c.program past)

abbrev pub replies_in : Config → List Step → List Reply
replies_in c steps = replies_by (reply_in c) steps

-- of the events nothing is counted, since no switch runs
abbrev pub no_events : SwitchReport
no_events = record { played = 0; not_fitted = 0; unconditioned = 0; ignored = 0 }

abbrev pub report_of : Config → List Step → Report
report_of c steps = record {
  messages = capped (judged_in (turns_in c.program steps));
  accepted = capped (accepted_in c.index (turns_in c.program steps));
  refused = capped (refused_in c.index (turns_in c.program steps));
  switch = no_events;
}

-- what two stretches of a run counted, summed
abbrev pub reports_sum : Report → Report → Report
reports_sum a b = record {
  messages = capped (a.messages + b.messages);
  accepted = capped (a.accepted + b.accepted);
  refused = capped (a.refused + b.refused);
  switch = events_sum a.switch b.switch;
}

-- the packets that go out by them, in order
abbrev pub sent_by : Config → List Step → List (List ℕ)
sent_by c steps = reverse (cued c steps)

-- ---- the talk of a run

-- What the automation gave up to its session's end, where it has ended, and the replies that it was given, all of them, the last one lost
-- or not: each stands behind the take that has its message's last byte, and before the next take. The failure that ended the session is
-- counted. The functions are an automation's.
pub record Exchanged {X : Type 0} (between : X → List Exchange → X → Type 0) (failures : X → ℕ) (old new : X)
    (ending : Option SessionEnd) (ts : List Take) (rs : List Reply) : Type 0 where
  pub exchanges : between old (exchanges_of (answers_to (lost_by ending) rs) (reverse ts)) new
  pub counted : CountsEnd None ending (failures old) (failures new)

-- A run has talked before so many packets, what it took are bytes, and each reply is the one by the history and this rule. `exchanged` says so
-- of a session's end, takes and replies.
pub record ServesBy (rule : MessageReading → List Step → Reply) (exchanged : Option SessionEnd → List Take → List Reply → Type 0) (ts : List Take)
    (rs : List Reply) (k : ℕ) (steps : List Step) : Type 0 where
  pub ending : Option SessionEnd
  pub talked : HasTalked ending ts (length rs) k
  pub bytes : AreBytes (bytes_of ts)
  pub exchanges : exchanged ending ts rs
  pub replies : rs ≡ replies_by rule steps

abbrev pub Serves : Config → (Option SessionEnd → List Take → List Reply → Type 0) → List Take → List Reply → ℕ → List Step → Type 0
Serves c exchanged ts rs k steps = ServesBy (reply_in c) exchanged ts rs k steps

-- ---- the theorems

-- THE THEOREM: the network's bytes have no fault; the cued stream of the network and of the requests that were
-- accepted is out; the replies are those to the messages of all pieces joined; and the report counts them. `is_out`
-- says of packets that they stand behind what was there.
pub record Injected (c : Config) (bs : List ℕ) (is_out : List (List ℕ) → Type 0)
    (exchanged : Option SessionEnd → List Take → List Reply → Type 0) (report : Report) : Type 0 where
  pub sound : first_run_fault (writing_cues c) bs ≡ None
  pub ts : List Take
  pub rs : List Reply
  pub serves : Serves c exchanged ts rs (length (packets_of bs)) (steps_of (length rs) ts (reverse (packets_of bs)))
  pub written : is_out (sent_by c (steps_of (length rs) ts (reverse (packets_of bs))))
  pub counted : report ≡ report_of c (steps_of (length rs) ts (reverse (packets_of bs)))

abbrev pub InjectsAll : Config → Option (List ℕ) → (List (List ℕ) → Type 0)
    → (Option SessionEnd → List Take → List Reply → Type 0) → Report → Type 0
InjectsAll c input is_out exchanged report = IfSome input (λ bs. Injected c bs is_out exchanged report)

-- ---- faults

-- The automation is heard before a packet that is not passed on, and not where none was read.
abbrev pub heard_at : RunFault → List (List ℕ) → ℕ → ℕ
heard_at (Read fault) rest k = k
heard_at (Feed fault) [] k = k
heard_at (Feed fault) (p ∷ more) k = suc k
heard_at SharedPid [] k = k
heard_at SharedPid (p ∷ more) k = suc k

-- What is answered and out where a run stops behind these packets, the automation having been heard before so many: that of these packets, and
-- of the messages before the next one. `leaves` says of the steps up to there what is out.
pub record ServedBefore (rule : MessageReading → List Step → Reply) (exchanged : Option SessionEnd → List Take → List Reply → Type 0) (k : ℕ)
    (leaves : List Step → Type 0) (passed : List (List ℕ)) : Type 0 where
  pub ts : List Take
  pub rs : List Reply
  pub serves : ServesBy rule exchanged ts rs k (steps_before (length rs) ts (reverse passed))
  pub out : leaves (steps_before (length rs) ts (reverse passed))

-- where it stops so, with these packets passed on and those left
abbrev pub WasServed : Config → (Option SessionEnd → List Take → List Reply → Type 0) → RunFault → (List Step → Type 0)
    → List (List ℕ) → List (List ℕ) → Type 0
WasServed c exchanged fault leaves passed rest = ServedBefore (reply_in c) exchanged (heard_at fault rest (length passed)) leaves passed

-- a front of what the next packet sends behind these steps went out, and then the sink failed
abbrev pub SendFails : Config → List Step → List (List ℕ) → (List (List ℕ) → List ℕ → Type 0) → Type 0
SendFails c steps rest fails =
    (p : List ℕ) × (more : List (List ℕ)) × (rest ≡ p ∷ more)
    × FrontFails (sent_at c p steps) (λ put q. fails (sent_by c steps ++ put) q)

-- What is answered and out, by the packets that were passed on and those left. `unsent` says of packets that the output stands behind them, and
-- that sending what it kept back of them failed so: then the automation was not heard before the next packet.
abbrev pub InjectLeaves : Config → RunFault → (List (List ℕ) → Type 0) → (List (List ℕ) → List ℕ → PutFault → Type 0)
    → (List (List ℕ) → PutFault → Type 0) → (Option SessionEnd → List Take → List Reply → Type 0)
    → List ℕ → List (List ℕ) → List (List ℕ) → Type 0
InjectLeaves c fault is_out fails unsent exchanged bs passed rest =
    WasServed c exchanged fault (λ steps. IsLeftBy fault (is_out (sent_by c steps)) (λ x. SendFails c steps rest (λ qs q. fails qs q x))) passed rest
    ⊎ IfSink fault (λ x. ServedBefore (reply_in c) exchanged (length passed) (λ steps. unsent (sent_by c steps) x) passed)

-- THE THEOREM FOR FAULTS of a run with an injector
abbrev pub InjectStops : Config → RunFault → Option (List ℕ) → (List (List ℕ) → Type 0)
    → (List (List ℕ) → List ℕ → PutFault → Type 0) → (List (List ℕ) → PutFault → Type 0)
    → (Option SessionEnd → List Take → List Reply → Type 0) → Type 0
InjectStops c fault input is_out fails unsent exchanged =
    StopsBy (writing_cues c) fault input (InjectLeaves c fault is_out fails unsent exchanged)

-- ---- what the devices did

-- what the network's device counted where a run stops so, by whether it had told the end before, and has now
abbrev pub NetworkBlamed : RunFault → Bool → Bool → Tally → Tally → Type 0
NetworkBlamed (Read fault) before ended old new = RunBlamed fault old new
NetworkBlamed (Feed (Network fault)) before ended old new = ReadSo ended old new
NetworkBlamed (Feed (Sink fault)) before ended old new = ReadOn before ended old new
NetworkBlamed (Feed Failed) before ended old new = ⊥
NetworkBlamed SharedPid before ended old new = ReadSo ended old new

-- what the output's device counted there; `full` is whether the output takes no more
abbrev pub OutputBlamed : RunFault → Tally → Tally → Bool → Type 0
OutputBlamed (Read fault) old new full = WentWell old new
OutputBlamed (Feed (Network fault)) old new full = WentWell old new
OutputBlamed (Feed (Sink fault)) old new full = Blamed fault old new full
OutputBlamed (Feed Failed) old new full = WentWell old new
OutputBlamed SharedPid old new full = WentWell old new
