use Rattle.std.proofs.Common.{◌≡◌, drop}
use Rattle.ad_library.specs.Slices.{left}
use Rattle.ad_library.proofs.slice.Slice.skip.Given as goal

abbrev pub invariant-loop-turn : goal.invariant-loop-turn
invariant-loop-turn l = record {
  left : left l.self ≡ drop l._turn (left l.initial.self);
  same : l.self.zero ≡ l.initial.self.zero;
}
