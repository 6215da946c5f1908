use Rattle.std.proofs.Common.{◌∙◌, sym, arith, []}
use Rattle.ad_library.proofs.PlacingLemmas.{first_past, rest_placed, rest_rises}
use Rattle.ad_library.proofs.unit.next_below.Goals as goal

pub loop-place-preserved : goal.loop-place-preserved
loop-place-preserved c =
    let e = c.in-Some.ensures.cases.0 in
    let past = c.if-saturating_sub-limit.false in
    let is = c.saturating_sub.ensures in
    let kept = c.loop-place.invariant.kept in
    record {
      kept = λ bs. sym (first_past c.args.least _ _ c.in-Some.place.now bs e c.args.limit (omega (arith, past, is))) ∙ kept bs;
      placed = λ bs h. rest_placed c.args.least _ _ c.in-Some.place.now bs e (c.loop-place.invariant.placed bs h);
      rising = λ h. rest_rises c.args.least _ _ c.in-Some.place.now [] e (c.loop-place.invariant.rising h);
    }
