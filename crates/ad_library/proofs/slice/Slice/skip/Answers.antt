use Rattle.std.proofs.Common.{◌≡◌, ◌∙◌, sym, ap, drop, List, None, arith}
use Rattle.std.specs.Prelude.{slice_get}
use Rattle.ad_library.specs.Advertisements.{AdvertUnit}
use Rattle.ad_library.specs.Lending.{unit_seen}
use Rattle.ad_library.specs.Slices.{left}
use Rattle.ad_library.specs.Placing.{are_placed, tops_rise}
use Rattle.ad_library.proofs.PlacingLemmas.{placed_drop, rises_drop, drop_more, drained, none_seen}
use Rattle.ad_library.proofs.slice.Slice.skip.Goals as goal

pub invariant_of-self : goal.invariant_of-self
invariant_of-self c =
    let e = c.split_at.ensures.back in
    let own = c.args.self.now in
    record {
      placed = ap (λ ps. are_placed own.zero ps own.bytes.now) e ∙ placed_drop c.args.count own.zero own.places.now own.bytes.now own.placed;
      rising = ap tops_rise e ∙ rises_drop c.args.count own.places.now own.rising;
    }

pub returns-then-is_none-clause-left : goal.returns-then-is_none-clause-left
returns-then-is_none-clause-left c =
    let turn = c.loop-turn._turn in
    let us = left c.args.self.now in
    let at : left c.loop-turn.self ≡ drop turn us = c.loop-turn.invariant.left in
    let none : slice_get (left c.loop-turn.self) 0 ≡ None = sym c.next.ensures.unit ∙ none_seen unit_seen c.next.result c.if-is_none.ensures in
    let le = c.loop-turn-test.true in
    c.next.ensures.left ∙ ap (drop 1) at ∙ drained us turn c.args.count (omega (arith, le)) (ap (λ (vs : List AdvertUnit). slice_get vs 0) (sym at) ∙ none)

pub loop-turn-preserved : goal.loop-turn-preserved
loop-turn-preserved c =
    let turn = c.loop-turn._turn in
    record {
      left = c.next.ensures.left ∙ ap (drop 1) c.loop-turn.invariant.left ∙ drop_more turn (left c.args.self.now);
      same = c.next.ensures.zero ∙ c.loop-turn.invariant.same;
    }
