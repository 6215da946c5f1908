-- A law of the faults of several services, over the definitions alone.
use Rattle.std.specs.Prelude.{◌≡◌, ℕ, List, ◌∷◌, false, reverse, None}
use Rattle.std.specs.List.{AllByRecursion}
use Rattle.ts_packet.specs.Packets.{packets_of}
use Rattle.program_follower.specs.Purposes.{writing_cues}
use Rattle.chain_engine.specs.Stops.{first_run_fault}
use Rattle.service_laws.specs.Services.{ServiceTerms, configs_of}
use Rattle.service_laws.specs.Faults.{share_a_pid, first_services_fault}

-- THE CONVERSE of what a run that goes through says of faults: where each of one or more services alone finds no fault in these bytes, and
-- behind all their packets no two of them share a PID, they find none together.
abbrev pub EachSoundIsEnough : Type 0
EachSoundIsEnough = (t : ServiceTerms) (ts : List ServiceTerms) (bs : List ℕ)
    → AllByRecursion (λ (u : ServiceTerms). first_run_fault (writing_cues u.config) bs ≡ None) (t ∷ ts)
    → share_a_pid (configs_of (t ∷ ts)) (reverse (packets_of bs)) ≡ false
    → first_services_fault (configs_of (t ∷ ts)) bs ≡ None
