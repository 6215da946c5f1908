-- What reading a stream to its end comes to.
use Rattle.std.specs.Prelude.{◌≡◌, ℕ, List, [], reverse, Option, None, IfSome, All}
use Rattle.ts_packet.specs.Packets.{packets_of}
use Rattle.ts_packet.specs.Runs.{Seen, seen_after}
use Rattle.ts_packet.specs.FirstFault as firsts
use Rattle.ad_library.specs.declared.fault.AdFault.TheVariants.{Packets}
use Rattle.ad_library.specs.declared.gathering.Gathering.{Gathering}
use Rattle.ad_library.specs.Faults.{ad_test}
use Rattle.ad_library.specs.Gathering.{Gathers}

-- nothing was wrong with these packets
abbrev pub AreClean : List (List ℕ) → Type 0
AreClean ps = All (λ (s : Seen). ad_test s ≡ None) (seen_after [] ps)

-- all packets of the stream were taken, and nothing is wrong with any
pub record GathersAll {A : Type 0} (input : Option (List ℕ)) (g : Gathering A) : Type 0 where
  pub packets : List (List ℕ)
  pub gathered : Gathers g (reverse packets)
  pub packets_are : IfSome input (λ bs. packets ≡ packets_of bs)
  pub sound : IfSome input (λ bs. firsts.first_fault Packets ad_test bs ≡ None)
