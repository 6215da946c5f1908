use Rattle.pes_time.proofs.LineLemmas.{ring-lift, lift-above, lift-below, lift-only}
use Rattle.pes_time.proofs.laws.lift_is_the_near_time.Goals as goal

pub returns : goal.returns
returns c = λ h p below. (record { ring = ring-lift h p below; low = lift-below h p below; high = lift-above h p below }, λ t near. rw (← near.ring) (lift-only h t near.low near.high))
