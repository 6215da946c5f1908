-- Lines are planned one by one.
use Rattle.std.proofs.Common.{◌≡◌, List, [], ◌∷◌, ◌++◌, append_assoc, sym, subst}
use Rattle.std.proofs.lemmas.List.{append-nil}
use Rattle.break_lists.specs.declared.list.NumberedLine.{NumberedLine}
use Rattle.break_plans.specs.declared.drafts.Setting.{Setting}
use Rattle.break_plans.specs.declared.planned.PlannedLine.{PlannedLine}
use Rattle.break_plans.specs.Drafts.{IsDraft}
use Rattle.break_plans.specs.Plans.{AllPlanned}

-- whatever the lines that are left come to, behind what has been planned
abbrev pub GoOn : Setting → List NumberedLine → List NumberedLine → List PlannedLine → Type 0
GoOn s list rest done = (more : List PlannedLine) → AllPlanned s rest more → AllPlanned s list (done ++ more)

pub one_more : (s : Setting) (list rest : List NumberedLine) (done : List PlannedLine) (l : NumberedLine) (p : PlannedLine) → GoOn s list (l ∷ rest) done
    → p.number ≡ l.number → IsDraft s l p.draft → GoOn s list rest (done ++ p ∷ [])
one_more s list rest done l p go number is more all =
    subst (AllPlanned s list) (sym (append_assoc done (p ∷ []) more)) (go (p ∷ more) ((number, is), all))

pub at_last : (s : Setting) (list : List NumberedLine) (done : List PlannedLine) → GoOn s list [] done → AllPlanned s list done
at_last s list done go = subst (AllPlanned s list) (append-nil done) (go [] tt)
