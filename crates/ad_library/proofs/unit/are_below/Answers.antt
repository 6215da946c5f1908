use Rattle.std.proofs.Common.{◌-◌, ◌∙◌, sym, ap, arith, Some}
use Rattle.std.proofs.lemmas.Bool.{ltb-true}
use Rattle.std.proofs.lemmas.Option.{slice_get-get_or}
use Rattle.ad_library.proofs.PlacingLemmas.{front_below}
use Rattle.ad_library.proofs.unit.are_below.Goals as goal

pub returns-in-Some-clause-front : goal.returns-in-Some-clause-front
returns-in-Some-clause-front c = λ yes bs.
    let b = c.if-count-eq0.false in
    let d = c.saturating_sub.ensures in
    let lt = ltb-true _ _ yes in
    let e = c.in-Some.ensures.lookup in
    let is = slice_get-get_or c.args.places.now (c.args.count - 1) c.in-Some.place.now e.3.0 ∙ ap Some (sym e.1) in
    front_below c.args.least c.args.limit bs c.args.places.now c.args.count c.in-Some.place.now (grind (arith, b)) c.requires is (omega (arith, d, lt))
