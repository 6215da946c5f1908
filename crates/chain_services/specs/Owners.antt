-- Which services take the packets of a PID.
use Rattle.std.specs.Prelude.{◌≡◌, ◌<◌, ◌%◌, ◌/◌, ℕ, zero, suc, Bool, false, List, [], ◌∷◌, slice_index_or, Some}
use Rattle.ts_packet.specs.Fields.{pid_of, is_among}
use Rattle.program_follower.specs.Program.{known_pids}
use Rattle.program_follower.specs.Following.{IsUnfollowed}
use Rattle.injector.specs.Steps.{Step, Message, Packet, packets_in}
use Rattle.service_laws.specs.Services.{ServiceTerms}

-- nothing of a service is on the PID, behind its PAT
abbrev pub IsNotOf : ServiceTerms → ℕ → List (List ℕ) → Type 0
IsNotOf t pid past = IsUnfollowed (Some t.config.program) (Some t.config.cue_pid) pid past

-- where bit n of a number is not set, nothing of the service of number n is on the PID
abbrev pub LeavesOut : ℕ → List ServiceTerms → ℕ → List (List ℕ) → Type 0
LeavesOut takers [] pid past = Unit {0}
LeavesOut takers (t ∷ ts) pid past = (takers % 2 ≡ 0 → IsNotOf t pid past) × LeavesOut (takers / 2) ts pid past

-- so many of the lowest bits of a number are not set, and behind them it is this one
abbrev pub IsShifted : ℕ → ℕ → ℕ → Type 0
IsShifted zero left takers = left ≡ takers
IsShifted (suc count) left takers = (takers % 2 ≡ 0) × IsShifted count left (takers / 2)

-- it is told of a PID: by such a number, or by 255 where all services take its packets
abbrev pub IsTold : ℕ → List ServiceTerms → ℕ → List (List ℕ) → Type 0
IsTold takers ts pid past = takers < 255 → LeavesOut takers ts pid past

-- It is told of each PID (ISO/IEC 13818-1, 2.4.3.3: 13 bits).
abbrev pub HasOwners : List ℕ → List ServiceTerms → List (List ℕ) → Type 0
HasOwners owners ts past = (pid : ℕ) → pid < 8192 → IsTold (slice_index_or owners pid 0) ts pid past

-- it is told anew of the PIDs of a test, and of each other one as before
abbrev pub ToldAnew : List ℕ → List ℕ → List ServiceTerms → (ℕ → Bool) → List (List ℕ) → Type 0
ToldAnew old new ts test past = (pid : ℕ) → pid < 8192 → (test pid ≡ false → IsTold (slice_index_or old pid 0) ts pid past)
    → IsTold (slice_index_or new pid 0) ts pid past

-- the PID is of a service: it is that for its cues, or known of its program
abbrev pub has_pid : ℕ → List (List ℕ) → ServiceTerms → Bool
has_pid pid past t = is_among pid (t.config.cue_pid ∷ known_pids (Some t.config.program) past)

-- all services take the packets of each PID
abbrev pub AllTake : List ℕ → Type 0
AllTake owners = (pid : ℕ) → pid < 8192 → slice_index_or owners pid 0 ≡ 255

-- no message was judged since the last packet
abbrev pub IsQuiet : List Step → Type 0
IsQuiet [] = Unit {0}
IsQuiet (Message m ∷ steps) = ⊥
IsQuiet (Packet p ∷ steps) = Unit {0}

-- a packet may be kept from a service, or from those that take it not
abbrev pub IsSkipped : ServiceTerms → List ℕ → List Step → Type 0
IsSkipped t p steps = IsQuiet steps × IsNotOf t (pid_of p) (packets_in steps)

abbrev pub AreSkipped : ℕ → List ServiceTerms → List ℕ → List Step → Type 0
AreSkipped takers ts p steps = IsQuiet steps × LeavesOut takers ts (pid_of p) (packets_in steps)
