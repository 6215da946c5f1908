use Rattle.ad_library.proofs.PlacingLemmas.{rest_placed, rest_rises}
use Rattle.ad_library.proofs.slice.Slice.next.Goals as goal

pub invariant_of-self-2 : goal.invariant_of-self-2
invariant_of-self-2 c =
    let e = c.in-Some.ensures.cases.0 in
    let at = c.next_below-ahead.ensures in
    record {
      placed = rest_placed c.args.self.now.zero _ _ c.in-Some.place.now c.args.self.now.bytes.now e (at.placed _ c.args.self.now.placed);
      rising = rest_rises c.args.self.now.zero _ _ c.in-Some.place.now c.args.self.now.bytes.now e (at.rising c.args.self.now.rising);
    }
