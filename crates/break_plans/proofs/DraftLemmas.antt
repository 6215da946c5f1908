-- What a line comes to, by its outcome.
use Rattle.std.proofs.Common.{◌≡◌, ℕ, refl, sym, subst, None}
use Rattle.break_choices.specs.declared.placing.Unplaced.{Unplaced}
use Rattle.break_choices.specs.Placing.{IsUnplaced}
use Rattle.break_plans.specs.declared.planned.Draft.{Draft}
use Rattle.break_plans.specs.declared.planned.Outcome.{Outcome}
use Rattle.break_plans.specs.declared.planned.Outcome.TheVariants as outcomes
use Rattle.break_plans.specs.declared.drafts.Setting.{Setting}
use Rattle.break_plans.specs.Drafts.{IsBreak, IsBreakOrNone, IsNoLength, IsEarlyEnd, IsEndOrNone}

pub a_break : (s : Setting) (at event advert long : ℕ) (d : Draft) → IsBreak s at event advert long d → IsBreakOrNone s at event advert long d d.outcome
a_break s at event advert long d b = subst (IsBreakOrNone s at event advert long d) (sym b.outcome) b

pub no_break : (s : Setting) (at event advert long : ℕ) (d : Draft) (why : Unplaced) → d ≡ record { outcome = outcomes.Unplaced why; request = None }
    → IsUnplaced s.pictures.now s.marks.now at why → IsBreakOrNone s at event advert long d d.outcome
no_break s at event advert long d why is un =
    let P : Draft → Type 0 = λ x. IsBreakOrNone s at event advert long x x.outcome in
    subst P (sym is) (un, refl)

pub no_length : (s : Setting) (at event advert long : ℕ) (d : Draft) → d ≡ record { outcome = outcomes.Length; request = None }
    → IsNoLength long → IsBreakOrNone s at event advert long d d.outcome
no_length s at event advert long d is none =
    let P : Draft → Type 0 = λ x. IsBreakOrNone s at event advert long x x.outcome in
    subst P (sym is) (none, refl)

pub an_end : (s : Setting) (at event : ℕ) (d : Draft) → IsEarlyEnd s at event d → IsEndOrNone s at event d d.outcome
an_end s at event d b = subst (IsEndOrNone s at event d) (sym b.outcome) b

pub no_end : (s : Setting) (at event : ℕ) (d : Draft) (why : Unplaced) → d ≡ record { outcome = outcomes.Unplaced why; request = None }
    → IsUnplaced s.pictures.now s.marks.now at why → IsEndOrNone s at event d d.outcome
no_end s at event d why is un =
    let P : Draft → Type 0 = λ x. IsEndOrNone s at event x x.outcome in
    subst P (sym is) (un, refl)
