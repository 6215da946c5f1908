-- What a stage does for one packet, and at the end. The relations and functions are those of a stage; `is_out` and `fails` say of packets that
-- they stand behind what its sink held, and that the put of a further one failed so.
use Rattle.std.specs.Prelude.{◌≡◌, ℕ, List, [], ◌∷◌, ◌++◌, Bool, true, false, reverse, Option, None, Some}
use Rattle.ts_packet.specs.Runs.{Seen}
use Rattle.ts_packet.specs.Sinks.{Blamed}
use Rattle.ts_packet.specs.Transfers.{WentWell}
use Rattle.ts_packet.specs.declared.tally.Tally.{Tally}
use Rattle.ts_packet.specs.declared.sink.PutFault.{PutFault}
use Rattle.packet_runs.specs.declared.stage.StageFault.{StageFault}
use Rattle.packet_runs.specs.declared.stage.StageFault.TheVariants.{Packet, Sink}

-- the packet that is kept: this one as it was left, or the one before
abbrev pub kept_by : Bool → List ℕ → List ℕ → List ℕ
kept_by true packet kept = packet
kept_by false packet kept = kept

-- a packet with those before it, in order
abbrev pub seen_behind : List (List ℕ) → List ℕ → Seen
seen_behind ps p = record { packet = p; past = reverse ps }

-- behind these packets it was given this one, and did not refuse it; all that it sent is out
pub record Went {S N : Type 0} (sends : S → List (List ℕ) → List (List ℕ) → List ℕ → S → Type 0) (refusal : S → Seen → Option N)
    (first : S) (ps : List (List ℕ)) (p kept : List ℕ) (now : S) (is_out : List (List ℕ) → Type 0) : Type 0 where
  pub sent : List (List ℕ)
  pub sound : refusal first (seen_behind ps p) ≡ None
  pub sends_it : sends first (ps ++ p ∷ []) sent kept now
  pub out : is_out sent

-- all packets were given, and it has told this; all that it sent is out
pub record Ended {S R : Type 0} (ends : S → List (List ℕ) → List (List ℕ) → R → S → Type 0) (first : S) (ps : List (List ℕ)) (report : R) (now : S)
    (is_out : List (List ℕ) → Type 0) : Type 0 where
  pub sent : List (List ℕ)
  pub ends_so : ends first ps sent report now
  pub out : is_out sent

-- it refused this packet, for this reason, and all that it sent for those before it is out
pub record Refused {S N : Type 0} (refusal : S → Seen → Option N) (refuses : S → List (List ℕ) → List (List ℕ) → List ℕ → S → Type 0) (why : N)
    (first : S) (ps : List (List ℕ)) (p : List ℕ) (now : S) (is_out : List (List ℕ) → Type 0) : Type 0 where
  pub sent : List (List ℕ)
  pub reason : refusal first (seen_behind ps p) ≡ Some why
  pub refuses_it : refuses first ps sent p now
  pub out : is_out sent

-- behind these packets, at the next one or at the end, its sink failed so
pub record Broke {S : Type 0} (breaks : S → List (List ℕ) → Option (List ℕ) → List (List ℕ) → List ℕ → S → Type 0) (fault : PutFault)
    (first : S) (ps : List (List ℕ)) (next : Option (List ℕ)) (now : S) (fails : List (List ℕ) → List ℕ → PutFault → Type 0) : Type 0 where
  pub sent : List (List ℕ)
  pub packet : List ℕ
  pub breaks_so : breaks first ps next sent packet now
  pub failed : fails sent packet fault

-- why a packet was not passed on
abbrev pub StepFails : {S N : Type 0} → (S → Seen → Option N) → (S → List (List ℕ) → List (List ℕ) → List ℕ → S → Type 0)
    → (S → List (List ℕ) → Option (List ℕ) → List (List ℕ) → List ℕ → S → Type 0) → StageFault N → S → List (List ℕ) → List ℕ → S
    → (List (List ℕ) → Type 0) → (List (List ℕ) → List ℕ → PutFault → Type 0) → Type 0
StepFails refusal refuses breaks (Packet why) first ps p now is_out fails = Refused refusal refuses why first ps p now is_out
StepFails refusal refuses breaks (Sink fault) first ps p now is_out fails = Broke breaks fault first ps (Some p) now fails

-- why what was left at the end was not put
abbrev pub FinishFails : {S : Type 0} → (S → List (List ℕ) → Option (List ℕ) → List (List ℕ) → List ℕ → S → Type 0) → PutFault → S → List (List ℕ)
    → S → (List (List ℕ) → List ℕ → PutFault → Type 0) → Type 0
FinishFails breaks fault first ps now fails = Broke breaks fault first ps None now fails

-- what became of the sink's device where a packet was not passed on; the last is whether the sink takes no more
abbrev pub StepBlamed : {N : Type 0} → StageFault N → Tally → Tally → Bool → Type 0
StepBlamed (Packet why) old new full = WentWell old new
StepBlamed (Sink fault) old new full = Blamed fault old new full
