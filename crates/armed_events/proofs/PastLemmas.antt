-- What one packet more does to what the cues have come to.
use Rattle.std.proofs.Common.{◌≡◌, ℕ, ◌+◌, ◌-◌, ◌^◌, Bool, true, false, List, [], ◌∷◌, refl, sym, ap, ◌∙◌, subst, arith}
use Rattle.std.specs.Prelude.{ℤ, pos, ◌+ℤ◌, ◌≤ℤ◌, int_lt, min, filter, Option, None, Some}
use Rattle.std.proofs.lemmas.Int.{ints}
use Rattle.pes_time.specs.Line.{signed, ring_of}
use Rattle.ts_packet.specs.Fields.{on}
use Rattle.event_table.specs.Rings.{CanAdvance}
use Rattle.event_table.specs.Standing.{Standing, forgotten_at, still_standing, IsTimeAt, stands}
use Rattle.event_table.specs.declared.table.Table.{Table}
use Rattle.event_table.specs.Tables.{StandsFor, values_of}
use Rattle.psi_section.specs.Assembling.{capped}
use Rattle.psi_section.proofs.RunLemmas.{given_off}
use Rattle.armed_events.specs.declared.asked.Asked.{Asked}
use Rattle.armed_events.specs.declared.obeying.Obeyed.{Obeyed}
use Rattle.armed_events.specs.Arming.{Change, Arm, Shorten, TakeBack, Keep, Ignore, change, standing_at, changed, is_ignored, Heard, with_change, with_sections, heard, armed, standing}
use Rattle.armed_events.specs.Obeying.{after_change, is_obeyed, ObeyedFor}
use Rattle.armed_events.specs.Valuing.{values_by}
use Rattle.armed_events.proofs.ChangeLemmas.{change-fits}

-- ---- the count

obeyed-none : (c : Change) → is_obeyed c ≡ true → is_ignored c ≡ 0
obeyed-none (Arm e) h = refl
obeyed-none (Shorten id time) h = refl
obeyed-none (TakeBack id) h = refl
obeyed-none Keep h = refl
obeyed-none Ignore h = absurd (grind (arith, h))

refused-one : (c : Change) → is_obeyed c ≡ false → is_ignored c ≡ 1
refused-one (Arm e) h = absurd (grind (arith, h))
refused-one (Shorten id time) h = absurd (grind (arith, h))
refused-one (TakeBack id) h = absurd (grind (arith, h))
refused-one Keep h = absurd (grind (arith, h))
refused-one Ignore h = refl

same-count : (n i : ℕ) → i ≡ 0 → capped n ≡ capped (i + n)
same-count n i h = omega arith

one-more : (n i : ℕ) → i ≡ 1 → min (capped n + 1) (2 ^ 64 - 1) ≡ capped (i + n)
one-more n i h = omega arith

-- ---- one section

module _ {T : Type 0} (old new : Obeyed T) (latest : Option ℤ) (h : Heard) (asked : Asked) where
  abbrev c : Change
  c = change latest (standing_at latest h.events) asked

  fitting : StandsFor new.table latest (after_change c (standing_at latest h.events)) → StandsFor new.table latest (standing_at latest (changed latest c h.events))
  fitting s = subst (λ (l : List Standing). StandsFor new.table latest l) (sym (change-fits latest h.events asked)) s

  pub obeyed-for : ObeyedFor old latest h → StandsFor new.table latest (after_change c (standing_at latest h.events)) → is_obeyed c ≡ true → new.ignored ≡ old.ignored → ObeyedFor new latest (with_change latest c h)
  obeyed-for o s y same = record { table = fitting s; count = same ∙ o.count ∙ same-count h.ignored (is_ignored c) (obeyed-none c y) }

  pub ignored-for : ObeyedFor old latest h → StandsFor new.table latest (after_change c (standing_at latest h.events)) → is_obeyed c ≡ false → new.ignored ≡ min (old.ignored + 1) (2 ^ 64 - 1) → ObeyedFor new latest (with_change latest c h)
  ignored-for o s n more =
      record { table = fitting s; count = more ∙ ap (λ k. min (k + 1) (2 ^ 64 - 1)) o.count ∙ one-more h.ignored (is_ignored c) (refused-one c n) }

-- ---- packets of other PIDs

pub heard-off : (pid : ℕ) (high : List (List ℕ) → Option ℤ) (p : List ℕ) (past : List (List ℕ)) → on pid p ≡ false → heard pid high (p ∷ past) ≡ heard pid high past
heard-off pid high p past o = ap (λ ss. with_sections (high past) ss (heard pid high past)) (given_off pid p past o)

-- ---- the greatest time rises

module _ {X : Type 0} (f g : X → Bool) (ok : (x : X) → g x ≡ true → f x ≡ true) where
  narrowed-one : (a b : Bool) (x : X) (xs : List X) → f x ≡ a → g x ≡ b → filter g (filter f xs) ≡ filter g xs → filter g (filter f (x ∷ xs)) ≡ filter g (x ∷ xs)
  narrowed-one true true x xs y z l = simp (y, z) (ap (λ k. x ∷ k) l)
  narrowed-one true false x xs y z l = simp (y, z) l
  narrowed-one false true x xs y z l = absurd (let k = ok x z in let m : false ≡ true = sym y ∙ k in grind (arith, m))
  narrowed-one false false x xs y z l = simp (y, z) l

  narrowed : (xs : List X) → filter g (filter f xs) ≡ filter g xs
  narrowed [] = refl
  narrowed (x ∷ xs) = narrowed-one (f x) (g x) x xs refl refl (narrowed xs)

still : (a b : ℤ) → a ≤ℤ b → (t : ℤ) → int_lt b t ≡ true → int_lt a t ≡ true
still a b le t h = grind (arith, ints)

later-than : (h way : ℤ) → pos 0 ≤ℤ way → h ≤ℤ (h +ℤ way)
later-than h way le = omega (arith, ints)

-- the events that still stand then are those that stand by the later time
pub risen : {T : Type 0} → (t : Table T) (latest : Option ℤ) (later : ℤ) (r : ℕ) (some : List Standing) → StandsFor t latest some → CanAdvance t.last r → IsTimeAt latest r later → (events : List Standing)
    → still_standing later (standing_at latest events) ≡ standing_at (Some later) events
risen t None later r some s can at events = narrowed (stands None) (stands (Some later)) (λ e _. refl) events
risen t (Some h) later r some s can at events =
    let can' : CanAdvance (Some (ring_of h)) r = subst (λ (x : Option ℕ). CanAdvance x r) s.high can in
    let le : h ≤ℤ later = rw at (later-than h (signed r (ring_of h)) can'.above) in
    narrowed (stands (Some h)) (stands (Some later)) (λ e. still h later le (forgotten_at e)) events

-- once the table has advanced
pub advanced-for : {T : Type 0} → (old new : Obeyed T) (latest : Option ℤ) (later : ℤ) (r : ℕ) (h : Heard) → ObeyedFor old latest h → CanAdvance old.table.last r → IsTimeAt latest r later
    → StandsFor new.table (Some later) (still_standing later (standing_at latest h.events)) → new.ignored ≡ old.ignored → ObeyedFor new (Some later) h
advanced-for old new latest later r h o can at s same = record {
  table = subst (λ (l : List Standing). StandsFor new.table (Some later) l) (risen old.table latest later r (standing_at latest h.events) o.table can at h.events) s;
  count = same ∙ o.count;
}

pub advanced-past : {T : Type 0} → (new : Obeyed T) (pid : ℕ) (high : List (List ℕ) → Option ℤ) (p : List ℕ) (past : List (List ℕ)) (later : ℤ) → on pid p ≡ false → high (p ∷ past) ≡ Some later
    → ObeyedFor new (Some later) (heard pid high past) → ObeyedFor new (high (p ∷ past)) (heard pid high (p ∷ past))
advanced-past new pid high p past later off is o =
    subst (λ (h : Heard). ObeyedFor new (high (p ∷ past)) h) (sym (heard-off pid high p past off))
    (subst (λ (l : Option ℤ). ObeyedFor new l (heard pid high past)) (sym is) o)

-- nothing yet
pub nothing-heard : {T : Type 0} → (t : Table T) (latest : Option ℤ) → latest ≡ None → StandsFor t None [] → ObeyedFor (record { table = t; ignored = 0 }) latest (record { events = []; ignored = 0 })
nothing-heard t latest is s = record { table = rw is s; count = omega arith }

-- and the values beside those that still stand are theirs
pub advanced-values : {T : Type 0} → (t t' : Table T) (value : ℤ → T) (pid : ℕ) (high : List (List ℕ) → Option ℤ) (p : List ℕ) (past : List (List ℕ)) (later : ℤ) (r : ℕ) → on pid p ≡ false
    → StandsFor t (high past) (standing pid high past) → CanAdvance t.last r → IsTimeAt (high past) r later → high (p ∷ past) ≡ Some later
    → values_of t' ≡ values_by value (still_standing later (standing pid high past)) → values_of t' ≡ values_by value (standing pid high (p ∷ past))
advanced-values t t' value pid high p past later r off s can at is values =
    values ∙ ap (values_by value) (risen t (high past) later r (standing pid high past) s can at (armed pid high past)
    ∙ ap (λ l. standing_at l (armed pid high past)) (sym is) ∙ ap (λ (h : Heard). standing_at (high (p ∷ past)) h.events) (sym (heard-off pid high p past off)))
