-- THE PLAN of a list of breaks.
use Rattle.std.specs.Prelude.{◌≡◌, List, [], ◌∷◌, map}
use Rattle.break_lists.specs.declared.list.NumberedLine.{NumberedLine}
use Rattle.break_scripts.specs.Laws.{AreInOrder}
use Rattle.break_plans.specs.declared.drafts.Setting.{Setting}
use Rattle.break_plans.specs.declared.planned.PlannedLine.{PlannedLine}
use Rattle.break_plans.specs.declared.planned.Plan.{Plan}
use Rattle.break_plans.specs.Drafts.{IsDraft}
use Rattle.break_plans.specs.Order.{asked_from}
use Rattle.break_plans.specs.Verdicts.{taken}
use Rattle.break_plans.specs.Judging.{unjudged}

-- each line has the number of its line of the list, and comes to what that does
abbrev pub AllPlanned : Setting → List NumberedLine → List PlannedLine → Type 0
AllPlanned s [] [] = Unit {0}
AllPlanned s (l ∷ ls) (p ∷ ps) = ((p.number ≡ l.number) × IsDraft s l p.draft) × AllPlanned s ls ps
AllPlanned s [] (p ∷ ps) = ⊥
AllPlanned s (l ∷ ls) [] = ⊥

-- all lines are planned; their requests are judged in the order of their packets; those that are taken are kept, in that order
pub record IsPlan (s : Setting) (list : List NumberedLine) (p : Plan) : Type 0 where
  pub lines : AllPlanned s list p.lines.items
  pub judged : map unjudged p.judged.items ≡ asked_from 0 [] p.lines.items
  pub requests : p.requests.items ≡ taken p.judged.items
  pub in_order : AreInOrder 0 p.requests.items
