use Rattle.std.proofs.Common.{◌≡◌, ℕ, List, [], ◌∷◌, ◌++◌, take, ap, sym, ◌∙◌}
use Rattle.ts_packet.specs.Fields.{pid_of, bytes}
use Rattle.break_timelines.specs.Timelines.{looked_at, rest_of, unit_of, judged, pictures_behind}
use Rattle.break_timelines.proofs.UnitLemmas.{behind_some, judged_alike, judged_none, closed}
use Rattle.break_timelines.proofs.pictures.Pictures.begin.Goals as goal

pub returns-then-not-picture : goal.returns-then-not-picture
returns-then-not-picture c = λ program past none is some.
    let self = c.args.self.now in
    let p = c.args.packet.now in
    closed program (p ∷ past) c.push.new.self.items self.unfinished self.unit.items none
    (λ after. behind_some program p past after c.args.picture some
    ∙ ap (λ ps. ps ++ judged c.args.picture (unit_of program p past after) ∷ []) (is after)
    ∙ ap (λ q. self.settled.items ++ q ∷ []) (judged_none c.args.picture (unit_of program p past after) [] c.if-not-picture.true ∙ sym c.judged.ensures)
    ∙ sym c.in_ok-push.ensures.items)

pub returns : goal.returns
returns c = λ program past none is some.
    let self = c.args.self.now in
    let p = c.args.packet.now in (
      pid_of p,
      p ∷ [],
      c.new.ensures.follows,
      λ after.
          let rest = rest_of program (pid_of p) (p ∷ []) (p ∷ past) after in
          behind_some program p past after c.args.picture some
          ∙ ap (λ ps. ps ++ judged c.args.picture (bytes p ++ rest) ∷ []) (is after)
          ∙ ap (λ q. self.settled.items ++ q ∷ []) (judged_alike c.args.picture (bytes p ++ rest) (c.hold.new.unit.items ++ rest)
          (sym (c.in_ok-hold.ensures rest ∙ ap (λ xs. take looked_at (xs ++ (bytes p ++ rest))) c.clear.ensures.items)))
          ∙ ap (λ b. self.settled.items ++ judged b (c.hold.new.unit.items ++ rest) ∷ []) (sym c.new.ensures.picture),
    )
