-- Whole runs of a stage: what is out, by the packets of the source; and what the devices did where a run stops.
use Rattle.std.specs.Prelude.{◌≡◌, ℕ, ◌⊎◌, List, [], ◌∷◌, Bool, true, false, Option, None, Some, IfSome}
use Rattle.ts_packet.specs.Packets.{packets_of}
use Rattle.ts_packet.specs.Runs.{Seen}
use Rattle.ts_packet.specs.Sources.{ReadSo, ReadOn, SourceCounts, RunBlamed}
use Rattle.ts_packet.specs.Sinks.{Blamed}
use Rattle.ts_packet.specs.Transfers.{WentWell}
use Rattle.ts_packet.specs.FirstFault.{first_fault}
use Rattle.ts_packet.specs.declared.tally.Tally.{Tally}
use Rattle.ts_packet.specs.declared.sink.PutFault.{PutFault}
use Rattle.packet_runs.specs.Stages.{Refused, Broke}
use Rattle.packet_runs.specs.Stops.{refusal_test}
use Rattle.packet_runs.specs.declared.run.Stop.{Stop}
use Rattle.packet_runs.specs.declared.run.Stop.TheVariants.{Read, Packet, Sink}

-- THE THEOREM: none of the source's packets is refused, all were given, and all that the stage sent is out. The functions are a stage's, from
-- its first state.
pub record WentThrough {S N R : Type 0} (refusal : Seen → Option N) (ends : List (List ℕ) → List (List ℕ) → R → S → Type 0) (bs : List ℕ)
    (report : R) (now : S) (is_out : List (List ℕ) → Type 0) : Type 0 where
  pub sound : first_fault Read (refusal_test refusal) bs ≡ None
  pub sent : List (List ℕ)
  pub ends_so : ends (packets_of bs) sent report now
  pub out : is_out sent

abbrev pub GoesThrough : {S N R : Type 0} → (Seen → Option N) → (List (List ℕ) → List (List ℕ) → R → S → Type 0) → Option (List ℕ) → R → S
    → (List (List ℕ) → Type 0) → Type 0
GoesThrough refusal ends input report now is_out = IfSome input (λ bs. WentThrough refusal ends bs report now is_out)

-- the stage was given these packets, and all that it sent is out
pub record HasSent {S : Type 0} (sends : S → List (List ℕ) → List (List ℕ) → List ℕ → S → Type 0) (first : S) (ps : List (List ℕ)) (now : S)
    (is_out : List (List ℕ) → Type 0) : Type 0 where
  pub sent : List (List ℕ)
  pub kept : List ℕ
  pub sends_it : sends first ps sent kept now
  pub out : is_out sent

-- it refused the next of the packets left
abbrev pub RefusesNext : {S N : Type 0} → (S → Seen → Option N) → (S → List (List ℕ) → List (List ℕ) → List ℕ → S → Type 0) → N → S
    → List (List ℕ) → List (List ℕ) → S → (List (List ℕ) → Type 0) → Type 0
RefusesNext refusal refuses why first passed rest now is_out =
    (p : List ℕ) × (more : List (List ℕ)) × (rest ≡ p ∷ more) × Refused refusal refuses why first passed p now is_out

-- its sink failed at the next of the packets left; or at the end, where all packets of a source without a fault were given
abbrev pub BreaksNext : {S : Type 0} → (S → List (List ℕ) → Option (List ℕ) → List (List ℕ) → List ℕ → S → Type 0) → PutFault → Type 0 → S
    → List (List ℕ) → List (List ℕ) → S → (List (List ℕ) → List ℕ → PutFault → Type 0) → Type 0
BreaksNext breaks fault none first passed [] now fails = none × Broke breaks fault first passed None now fails
BreaksNext breaks fault none first passed (p ∷ more) now fails = Broke breaks fault first passed (Some p) now fails

-- What is out where a run stops so, by the packets that were passed on and those left. `unsent` says of packets that the sink stands behind
-- them, and that sending what it kept back of them failed so.
abbrev pub Leaves : {S N : Type 0} → (S → List (List ℕ) → List (List ℕ) → List ℕ → S → Type 0) → (S → List (List ℕ) → List (List ℕ) → List ℕ → S → Type 0)
    → (S → List (List ℕ) → Option (List ℕ) → List (List ℕ) → List ℕ → S → Type 0) → (S → Seen → Option N) → Stop N → S → S
    → (List (List ℕ) → Type 0) → (List (List ℕ) → List ℕ → PutFault → Type 0) → (List (List ℕ) → PutFault → Type 0)
    → List ℕ → List (List ℕ) → List (List ℕ) → Type 0
Leaves sends refuses breaks refusal (Read fault) first now is_out fails unsent bs passed rest = HasSent sends first passed now is_out
Leaves sends refuses breaks refusal (Packet why) first now is_out fails unsent bs passed rest = RefusesNext refusal refuses why first passed rest now is_out
Leaves sends refuses breaks refusal (Sink fault) first now is_out fails unsent bs passed rest =
    BreaksNext breaks fault (first_fault Read (refusal_test (refusal first)) bs ≡ None) first passed rest now fails
    ⊎ HasSent sends first passed now (λ l. unsent l fault)

-- ---- what the devices did

-- What the source's device counted where a run stops so, by whether it had told the end before, and has now: up to a packet, or behind one; or,
-- where the stage may put something at the end, up to the end.
abbrev pub SourceBlamedAt : {N : Type 0} → Bool → Stop N → Bool → Bool → Tally → Tally → Type 0
SourceBlamedAt puts_rest (Read fault) before ended old new = RunBlamed fault old new
SourceBlamedAt puts_rest (Packet why) before ended old new = ReadSo ended old new
SourceBlamedAt puts_rest (Sink fault) before ended old new = ReadOn before ended old new ⊎ ((puts_rest ≡ true) × SourceCounts false before ended old new)

-- what the sink's device counted there; `full` is whether the sink takes no more
abbrev pub SinkBlamedAt : {N : Type 0} → Stop N → Tally → Tally → Bool → Type 0
SinkBlamedAt (Read fault) old new full = WentWell old new
SinkBlamedAt (Packet why) old new full = WentWell old new
SinkBlamedAt (Sink fault) old new full = Blamed fault old new full
