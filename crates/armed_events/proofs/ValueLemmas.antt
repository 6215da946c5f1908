-- What a change does to the values beside the events that stand.
use Rattle.std.proofs.Common.{◌≡◌, ℕ, ◌+◌, Bool, true, false, List, [], ◌∷◌, ◌++◌, refl, sym, ap, ◌∙◌, append_assoc}
use Rattle.std.specs.Prelude.{ℤ, Result, Ok, Err, OnErr, is_ok, replicate}
use Rattle.std.proofs.lemmas.List.{append-nil, replicate-append-replicate}
use Rattle.event_table.specs.Standing.{Standing, has_id, with_first, cancelled_one, ending_at}
use Rattle.event_table.specs.declared.table.Table.{Table}
use Rattle.event_table.specs.declared.table.Armed.{Armed}
use Rattle.event_table.specs.declared.table.Armed.TheVariants.{New, Same}
use Rattle.event_table.specs.declared.table.ArmRefusal.{ArmRefusal}
use Rattle.event_table.specs.declared.table.CancelRefusal.{CancelRefusal}
use Rattle.event_table.specs.declared.table.ShortenRefusal.{ShortenRefusal}
use Rattle.event_table.specs.Tables.{values_of}
use Rattle.armed_events.specs.Arming.{by_arm_answer, by_shorten_answer, by_cancel_answer}
use Rattle.armed_events.specs.Obeying.{after_change, is_obeyed}
use Rattle.armed_events.specs.Valuing.{values_by, AddsOnly}

module _ {T : Type 0} (value : ℤ → T) where
  one-behind : (es : List Standing) (e : Standing) → values_by value (es ++ e ∷ []) ≡ values_by value es ++ value e.start ∷ []
  one-behind [] e = refl
  one-behind (x ∷ es) e = ap (λ vs. value x.start ∷ vs) (one-behind es e)

  module _ (test : Standing → Bool) (change : Standing → Standing) (keeps : (e : Standing) → (change e).start ≡ e.start) where
    one-first : (b : Bool) (e : Standing) (es : List Standing) → test e ≡ b → values_by value (with_first test change es) ≡ values_by value es
        → values_by value (with_first test change (e ∷ es)) ≡ values_by value (e ∷ es)
    one-first true e es h later = simp h (ap (λ t. value t ∷ values_by value es) (keeps e))
    one-first false e es h later = simp h (ap (λ vs. value e.start ∷ vs) later)

    with-first : (es : List Standing) → values_by value (with_first test change es) ≡ values_by value es
    with-first [] = refl
    with-first (e ∷ es) = one-first (test e) e es refl (with-first es)

  pub arm-values : (t t' : Table T) (standing : List Standing) (e : Standing) (fresh : T) (a : Result Armed ArmRefusal) → (a ≡ Ok New → values_of t' ≡ values_of t ++ fresh ∷ [])
      → (a ≡ Ok Same → t' ≡ t) → OnErr a (t' ≡ t) → value e.start ≡ fresh → values_of t ≡ values_by value standing → values_of t' ≡ values_by value (after_change (by_arm_answer e a) standing)
  arm-values t t' standing e fresh (Ok New) new same refused is before =
      new refl ∙ ap (λ vs. vs ++ fresh ∷ []) before ∙ ap (λ v. values_by value standing ++ v ∷ []) (sym is) ∙ sym (one-behind standing e)
  arm-values t t' standing e fresh (Ok Same) new same refused is before = ap values_of (same refl) ∙ before
  arm-values t t' standing e fresh (Err f) new same refused is before = ap values_of refused ∙ before

  pub end-values : (now : List T) (standing : List Standing) (id : ℕ) (time : ℤ) (a : Result Armed ShortenRefusal) → now ≡ values_by value standing
      → now ≡ values_by value (after_change (by_shorten_answer id time a) standing)
  end-values now standing id time (Ok New) is = is ∙ sym (with-first (has_id id) (ending_at time) (λ e. refl) standing)
  end-values now standing id time (Ok Same) is = is
  end-values now standing id time (Err f) is = is

  pub cancel-values : (now : List T) (standing : List Standing) (id : ℕ) (a : Result (Unit {0}) CancelRefusal) → now ≡ values_by value standing
      → now ≡ values_by value (after_change (by_cancel_answer id a) standing)
  cancel-values now standing id (Ok u) is = is ∙ sym (with-first (has_id id) cancelled_one (λ e. refl) standing)
  cancel-values now standing id (Err f) is = is

-- where nothing is added
pub adds-none : {T : Type 0} → (fresh : T) (before after : List T) → after ≡ before → AddsOnly fresh before after
adds-none fresh before after same = (0, same ∙ sym (append-nil before))

pub adds-more : {T : Type 0} → (fresh : T) (before mid after : List T) → AddsOnly fresh before mid → AddsOnly fresh mid after → AddsOnly fresh before after
adds-more fresh before mid after a b = (
  a.0 + b.0,
  b.1 ∙ ap (λ vs. vs ++ replicate b.0 fresh) a.1 ∙ append_assoc before (replicate a.0 fresh) (replicate b.0 fresh)
      ∙ ap (λ vs. before ++ vs) (replicate-append-replicate a.0 b.0 fresh),
)

pub arm-adds : {T : Type 0} → (t t' : Table T) (fresh : T) (a : Result Armed ArmRefusal) → (a ≡ Ok New → values_of t' ≡ values_of t ++ fresh ∷ [])
    → (a ≡ Ok Same → t' ≡ t) → OnErr a (t' ≡ t) → AddsOnly fresh (values_of t) (values_of t')
arm-adds t t' fresh (Ok New) new same refused = (1, new refl)
arm-adds t t' fresh (Ok Same) new same refused = adds-none fresh (values_of t) (values_of t') (ap values_of (same refl))
arm-adds t t' fresh (Err f) new same refused = adds-none fresh (values_of t) (values_of t') (ap values_of refused)

-- the cue is obeyed where the table armed it, or had it
pub ok-obeyed : (e : Standing) (a : Result Armed ArmRefusal) → is_ok a ≡ is_obeyed (by_arm_answer e a)
ok-obeyed e (Ok New) = refl
ok-obeyed e (Ok Same) = refl
ok-obeyed e (Err f) = refl
