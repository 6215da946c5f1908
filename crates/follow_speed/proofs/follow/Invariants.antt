use Rattle.std.proofs.Common.{◌≡◌, ◌-◌, ◌^◌, ℕ, List, false}
use Rattle.follow_speed.specs.Runs.{HasFollowed}
use Rattle.follow_speed.proofs.follow.Given as goal

abbrev pub invariant-loop-follower : goal.invariant-loop-follower
invariant-loop-follower g l = record {
  whole : l.reader.is_broken ≡ false;
  followed : (ps : List (List ℕ)) × HasFollowed (g.S.Source.remaining l.initial.reader.source.now) (g.S.Source.remaining l.reader.source.now) l.follower ps;
}

abbrev pub decreases-loop-follower : goal.decreases-loop-follower
decreases-loop-follower g l = 2 ^ 64 - l.reader.given
