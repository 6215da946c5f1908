-- Laws over the definitions alone.
use Rattle.std.specs.Prelude.{◌≡◌, ℕ, ◌==◌, List, [], ◌∷◌, length, false, if◌then◌else◌, Some, None}
use Rattle.std.specs.List.{AllByRecursion}
use Rattle.wire_fields.specs.Numbers.{AreBytes}
use Rattle.psi_tables.specs.declared.config.Config.{Config}
use Rattle.program_follower.specs.Program.{program_of, pids_of}
use Rattle.program_follower.specs.Faults.{first_fault}
use Rattle.program_laws.specs.Writing.{Along}
use Rattle.program_laws.specs.Cued.{cued as cued_network, On, CuedReads}
use Rattle.injector.specs.Steps.{Step, Message, Packet, packets_in, turns_in, has_news}
use Rattle.injector.specs.Steps.{sections_before, cue_packets, cued}
use Rattle.program_follower.specs.Purposes.{writing_cues}
use Rattle.program_follower.specs.Following.{high_of}

-- THE LAW OF REST. No cue goes out before a packet that leaves the greatest time as it was, where no request was accepted since the packet
-- before it.
abbrev pub NoCueBetween : Type 0
NoCueBetween = (c : Config) (p : List ℕ) (past : List Step) → has_news c.index (turns_in c.program past) ≡ false →
    high_of (Some c.program) (p ∷ packets_in past) ≡ high_of (Some c.program) (packets_in past) → sections_before c p past ≡ []

-- What a history puts in front of the packet behind these packets: which packet that is, their number says.
abbrev pub own_fronts : Config → List Step → List ℕ → List (List ℕ) → List (List ℕ)
own_fronts c [] p ps = []
own_fronts c (Message m ∷ past) p ps = own_fronts c past p ps
own_fronts c (Packet q ∷ past) p ps =
    if length ps == length (packets_in past) then cue_packets c q past (cued c past) else own_fronts c past p ps

-- THE LAW OF THE TWO CUED STREAMS. What goes out for a history is the network of its packets with its cues in front of them, and with the
-- entry for cues in each map of the program. So it holds of a network without fault: where a packet on the PID of the map was one on the
-- PID of the cues, the sections of the maps would go on with the counter of the cues before them in the one, and not in the other.
pub record IsCuedNetwork (c : Config) (past : List Step) : Type 0 where
  pub stream : cued c past ≡ cued_network (Some c.program) c.cue_pid (own_fronts c past) (packets_in past)
  pub cues : Along (λ p ps. AllByRecursion (On c.cue_pid) (own_fronts c past p ps)) (packets_in past)

abbrev pub CuedIsWritten : Type 0
CuedIsWritten = (c : Config) (past : List Step) → first_fault (writing_cues c) (packets_in past) ≡ None →
    IsCuedNetwork c past

-- and so it has the network's PAT, program and units, and stripped again its sections
abbrev pub CuedReadsAgain : Type 0
CuedReadsAgain = (c : Config) (past : List Step) → first_fault (writing_cues c) (packets_in past) ≡ None →
    Along (λ p ps. AreBytes p) (packets_in past) →
    CuedReads (Some c.program) c.cue_pid (cued c past) (packets_in past)
    (pids_of (program_of (Some c.program) (packets_in past)))
