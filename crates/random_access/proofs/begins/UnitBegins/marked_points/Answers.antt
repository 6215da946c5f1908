use Rattle.std.proofs.Common.{◌≡◌, ◌++◌, ◌∷◌, [], sym, ap, ◌∙◌, ◌<◌, length, arith}
use Rattle.random_access.proofs.PointLemmas.{points_more, points_same}
use Rattle.random_access.proofs.begins.UnitBegins.marked_points.Goals as goal
use Rattle.random_access.proofs.begins.UnitBegins.marked_points.Goals.{in-Some+in_ok-push, in_default}

pub loop-begin-preserved : goal.loop-begin-preserved
loop-begin-preserved c =
    let bs = c.deref-begin-items.result.now in
    let i = c.loop-begin.begin-index in
    let below : i < length bs = omega arith in
    elim c.match-point.branch [
      | in-Some+in_ok-push w ↦
          let more = points_more c.args.coding bs i c.begin-item.result w.in-Some.point below (sym c.begin-item.is) (sym c.point.ensures ∙ w.in-Some.is) in
          let grown : c.match-point.points.items ≡ c.loop-begin.points.items ++ w.in-Some.point ∷ [] = ap (λ v. v.items) w.points-is ∙ w.in_ok-push.ensures.items in
          grown ∙ ap (λ l. l ++ w.in-Some.point ∷ []) c.loop-begin.invariant ∙ sym more
      | in_default w ↦
          let same = points_same c.args.coding bs i c.begin-item.result below (sym c.begin-item.is) (sym c.point.ensures ∙ w.in_default.is) in
          ap (λ v. v.items) w.points-is ∙ c.loop-begin.invariant ∙ sym same
    ]
