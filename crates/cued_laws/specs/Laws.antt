-- A stream with cues has no fault for those who read them, where its network has none for those who write them.
use Rattle.std.specs.Prelude.{◌≡◌, ℕ, ◌<◌, List, ◌∷◌, ◌++◌, Option, None}
use Rattle.std.specs.List.{AllByRecursion}
use Rattle.ts_packet.specs.Runs.{onto}
use Rattle.wire_fields.specs.Numbers.{AreBytes}
use Rattle.psi_tables.specs.declared.config.Config.{Config}
use Rattle.program_follower.specs.Faults.{network_fault, first_fault}
use Rattle.program_follower.specs.Purposes.{reading_cues, cues_written_on, cues_read_on, writing_cues}
use Rattle.program_laws.specs.Writing.{Along}
use Rattle.program_laws.specs.Cued.{On, cued as cued_network}
use Rattle.injector.specs.Steps.{Step, packets_in, sent_at, cued}

-- the packets are of bytes
abbrev pub ArePacketsOfBytes : List (List ℕ) → Type 0
ArePacketsOfBytes past = Along (λ p past. AreBytes p) past

-- THE LAW OF THE CUED STREAM'S FAULTS. A network without fault for those who write cues on this PID, whatever packets of it are put in front
-- of the network's, is with the entry for cues in its maps without fault for those who read cues there. So no time jumps, no header is split,
-- nothing is scrambled, the tables list what they listed, and the entry takes no PID that the program has.
abbrev pub CuedIsFaultless : Type 0
CuedIsFaultless = (wanted : Option ℕ) (cue : ℕ) (cues : List ℕ → List (List ℕ) → List (List ℕ)) (past : List (List ℕ)) →
    (cue ≡ 0 → ⊥) → cue < 8192 → first_fault (cues_written_on wanted cue) past ≡ None → ArePacketsOfBytes past →
    Along (λ p past. AllByRecursion (On cue) (cues p past)) past →
    first_fault (cues_read_on wanted cue) (cued_network wanted cue cues past) ≡ None

-- and so all that an injector sends for a history
abbrev pub InjectedIsFaultless : Type 0
InjectedIsFaultless = (c : Config) (past : List Step) → first_fault (writing_cues c) (packets_in past) ≡ None →
    ArePacketsOfBytes (packets_in past) → first_fault (reading_cues c) (cued c past) ≡ None

-- THE SWITCH, packet by packet: at each front of what is sent for a packet without fault, the next one is without fault behind what is out
abbrev pub NoneSentIsAtFault : Type 0
NoneSentIsAtFault = (c : Config) (p : List ℕ) (past : List Step) (put left : List (List ℕ)) (q : List ℕ) →
    first_fault (writing_cues c) (p ∷ packets_in past) ≡ None → ArePacketsOfBytes (p ∷ packets_in past) →
    sent_at c p past ≡ put ++ q ∷ left → network_fault (reading_cues c) q (onto (cued c past) put) ≡ None
