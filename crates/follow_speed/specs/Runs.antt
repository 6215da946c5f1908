-- What a run over a network says that follows its first program to its end.
use Rattle.std.specs.Prelude.{◌≡◌, ℕ, List, [], Option, None, Some, IfSome, reverse, All}
use Rattle.ts_packet.specs.Sources.{HasRead}
use Rattle.ts_packet.specs.Runs.{Seen, seen_after}
use Rattle.ts_packet.specs.FirstFault.{Cause, OfInput, OfNothing, read_cause, SaysBy}
use Rattle.psi_tables.specs.declared.network.NetworkFault.{NetworkFault}
use Rattle.program_follower.specs.declared.follower.ProgramFollower.{ProgramFollower}
use Rattle.program_follower.specs.declared.follower.FollowFault.TheVariants as follow_faults
use Rattle.program_follower.specs.Purposes.{reading_advertisement}
use Rattle.program_follower.specs.FirstFault.{network_test, first_network_fault}
use Rattle.program_follower.specs.Following.{FollowerStandsFor}
use Rattle.follow_speed.specs.declared.RunFault.{RunFault}
use Rattle.follow_speed.specs.declared.RunFault.TheVariants.{Read, Follow}

abbrev pub of_network : NetworkFault → RunFault
of_network fault = Follow (follow_faults.Network fault)

-- the first fault of these bytes
abbrev pub first_fault : List ℕ → Option RunFault
first_fault bs = first_network_fault Read of_network reading_advertisement bs

-- where a fault comes from
abbrev pub run_cause : RunFault → Cause
run_cause (Read fault) = read_cause fault
run_cause (Follow (follow_faults.Network fault)) = OfInput
run_cause (Follow follow_faults.Failed) = OfNothing

abbrev pub HasNoFault : Option (List ℕ) → Type 0
HasNoFault input = IfSome input (λ bs. first_fault bs ≡ None)

-- a fault of the bytes is the first one; a fault of a device says nothing of them
abbrev pub Stops : RunFault → Option (List ℕ) → Type 0
Stops fault input = IfSome input (λ bs. SaysBy (run_cause fault) (first_fault bs ≡ Some fault))

-- these packets were read and followed, without fault
pub record HasFollowed (input left : Option (List ℕ)) (follower : ProgramFollower) (ps : List (List ℕ)) : Type 0 where
  pub read : HasRead input left ps
  pub sound : All (λ (s : Seen). network_test of_network reading_advertisement s ≡ None) (seen_after [] ps)
  pub follows : FollowerStandsFor follower reading_advertisement (reverse ps)
