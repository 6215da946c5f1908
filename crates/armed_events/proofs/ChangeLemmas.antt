-- What a change does to all events, and to those that stand.
use Rattle.std.proofs.Common.{◌≡◌, ℕ, ◌^◌, Bool, true, false, not, ◌&&◌, List, [], ◌∷◌, ◌++◌, refl, sym, ap, ◌∙◌, if◌then◌else◌, arith}
use Rattle.std.specs.Prelude.{ℤ, pos, negsuc, ◌+ℤ◌, ◌-ℤ◌, ◌≤ℤ◌, int_le, int_lt, unsigned_abs, filter, find, Option, None, Some, Result, Ok, Err, OnErr}
use Rattle.std.specs.List.{list_any}
use Rattle.std.specs.Ordering.{int_eq}
use Rattle.std.proofs.lemmas.Int.{ints}
use Rattle.std.proofs.lemmas.Bool.{true≢false, and_parts}
use Rattle.std.proofs.lemmas.List.Elements.{filter-append}
use Rattle.pes_time.specs.Line.{place}
use Rattle.event_table.specs.Standing.{Standing, on_line, has_id, is_ahead_of, end_of, is_early_end, repeats, arm_answer, cancel_answer, shorten_answer, shorten_answer_of, with_first, cancelled_one, ending_at, with_cancelled, stands}
use Rattle.event_table.specs.declared.table.Table.{Table}
use Rattle.event_table.specs.declared.table.Armed.{Armed}
use Rattle.event_table.specs.declared.table.Armed.TheVariants.{New, Same}
use Rattle.event_table.specs.declared.table.ArmRefusal.{ArmRefusal}
use Rattle.event_table.specs.declared.table.CancelRefusal.{CancelRefusal}
use Rattle.event_table.specs.declared.table.ShortenRefusal.{ShortenRefusal}
use Rattle.event_table.specs.declared.table.ShortenRefusal.TheVariants.{NoSuchEvent as NothingToShorten, BadEnd}
use Rattle.event_table.specs.Tables.{StandsFor}
use Rattle.armed_events.specs.declared.asked.Asked.{Asked}
use Rattle.armed_events.specs.declared.asked.Asked.TheVariants.{Start, End, Cancel, Unfit, Nothing}
use Rattle.armed_events.specs.Arming.{is_fresh, Change, Keep, Ignore, by_arm_answer, by_shorten_answer, by_cancel_answer, start_change, change, standing_at, changed}
use Rattle.armed_events.specs.Obeying.{after_change}

-- ---- what the table's answers make of it

pub start-repeated : (latest : Option ℤ) (standing : List Standing) (e : Standing) → list_any (repeats e) standing ≡ true → start_change latest standing e ≡ Keep
start-repeated latest standing e r = rw r refl

pub start-refused : (latest : Option ℤ) (standing : List Standing) (e : Standing) → list_any (repeats e) standing ≡ false → (is_fresh e && is_ahead_of latest e.start) ≡ false
    → start_change latest standing e ≡ Ignore
start-refused latest standing e r c = rw (r, c) refl

pub start-answered : (latest : Option ℤ) (standing : List Standing) (e : Standing) (a : Result Armed ArmRefusal) → list_any (repeats e) standing ≡ false
    → (is_fresh e && is_ahead_of latest e.start) ≡ true → a ≡ arm_answer standing e → start_change latest standing e ≡ by_arm_answer e a
start-answered latest standing e a r c is =
    picked (list_any (repeats e) standing) (is_fresh e && is_ahead_of latest e.start) (by_arm_answer e (arm_answer standing e)) r c ∙ ap (by_arm_answer e) (sym is)
  where
    picked : (b c : Bool) (x : Change) → b ≡ false → c ≡ true → (if b then Keep else (if c then x else Ignore)) ≡ x
    picked b c x p q = rw (p, q) refl

pub arm-after : {T : Type 0} → (t t' : Table T) (latest : Option ℤ) (standing : List Standing) (e : Standing) (a : Result Armed ArmRefusal) → StandsFor t latest standing
    → (a ≡ Ok New → StandsFor t' latest (standing ++ e ∷ [])) → (a ≡ Ok Same → t' ≡ t) → OnErr a (t' ≡ t) → StandsFor t' latest (after_change (by_arm_answer e a) standing)
arm-after t t' latest standing e (Ok New) s new same refused = new refl
arm-after t t' latest standing e (Ok Same) s new same refused = rw (same refl) s
arm-after t t' latest standing e (Err f) s new same refused = rw refused s

pub cancel-after : {T : Type 0} → (t t' : Table T) (latest : Option ℤ) (standing : List Standing) (id : ℕ) (a : Result (Unit {0}) CancelRefusal) → StandsFor t latest standing
    → (a ≡ Ok tt → StandsFor t' latest (with_cancelled id standing)) → OnErr a (t' ≡ t) → StandsFor t' latest (after_change (by_cancel_answer id a) standing)
cancel-after t t' latest standing id (Ok u) s done refused = done refl
cancel-after t t' latest standing id (Err f) s done refused = rw refused s

-- ---- those that stand, after a change of all

module _ {X : Type 0} (f g : X → Bool) (change : X → X) where
  with_first-past : (b : Bool) (x : X) (xs : List X) → g x ≡ b → f x ≡ true → filter f (with_first (λ y. f y && g y) change xs) ≡ with_first g change (filter f xs)
      → filter f (change x ∷ xs) ≡ change x ∷ filter f xs → filter f (with_first (λ y. f y && g y) change (x ∷ xs)) ≡ with_first g change (filter f (x ∷ xs))
  with_first-past true x xs h y later passes = simp (y, h) passes
  with_first-past false x xs h y later passes = simp (y, h) (ap (λ l. x ∷ l) later)

  passes : (x : X) (xs : List X) → f x ≡ true → filter f (x ∷ xs) ≡ x ∷ filter f xs
  passes x xs h = simp h refl

  with_first-on : (b : Bool) (x : X) (xs : List X) → f x ≡ b → (f x ≡ true → f (change x) ≡ true) → filter f (with_first (λ y. f y && g y) change xs) ≡ with_first g change (filter f xs)
      → filter f (with_first (λ y. f y && g y) change (x ∷ xs)) ≡ with_first g change (filter f (x ∷ xs))
  with_first-on true x xs h ok later = with_first-past (g x) x xs refl h later (passes (change x) xs (ok h))
  with_first-on false x xs h ok later = simp h later

  -- the first that passes both tests is the first of those that pass one to pass the other
  filter-with_first : ((x : X) → f x ≡ true → f (change x) ≡ true) → (xs : List X) → filter f (with_first (λ y. f y && g y) change xs) ≡ with_first g change (filter f xs)
  filter-with_first ok [] = refl
  filter-with_first ok (x ∷ xs) = with_first-on (f x) x xs refl (ok x) (filter-with_first ok xs)

grown : (start time : ℤ) → time ≤ℤ (start +ℤ pos (unsigned_abs (time -ℤ start)))
grown start time = by (time -ℤ start) refl
  where
    by : (way : ℤ) → time -ℤ start ≡ way → time ≤ℤ (start +ℤ pos (unsigned_abs way))
    by (pos n) is = omega (arith, ints)
    by (negsuc n) is = omega (arith, ints)

-- an end ahead of the greatest time leaves the event standing
ending-stands : (latest : Option ℤ) (time : ℤ) → is_ahead_of latest time ≡ true → (s : Standing) → stands latest (ending_at time s) ≡ true
ending-stands None time h s = refl
ending-stands (Some high) time h s =
    let p = and_parts (int_lt high time) (int_le time (high +ℤ pos (2 ^ 29))) h in
    later high time (s.start +ℤ pos (unsigned_abs (time -ℤ s.start))) p.0 (grown s.start time)
  where
    later : (high time end : ℤ) → int_lt high time ≡ true → time ≤ℤ end → int_lt high (end +ℤ pos 900000) ≡ true
    later high time end h g = grind (arith, ints)

-- so does a start
starting-stands : (latest : Option ℤ) (e : Standing) → is_ahead_of latest e.start ≡ true → stands latest e ≡ true
starting-stands None e h = refl
starting-stands (Some high) e h =
    let p = and_parts (int_lt high e.start) (int_le e.start (high +ℤ pos (2 ^ 29))) h in
    later high e.start e.length p.0
  where
    later : (high start : ℤ) (n : ℕ) → int_lt high start ≡ true → int_lt high ((start +ℤ pos n) +ℤ pos 900000) ≡ true
    later high start n h = grind (arith, ints)

cancelled-stands : (latest : Option ℤ) (s : Standing) → stands latest s ≡ true → stands latest (cancelled_one s) ≡ true
cancelled-stands None s h = refl
cancelled-stands (Some high) s h = h

-- what is left standing by a change is what it makes of those that stand
abbrev Fits : Option ℤ → List Standing → Change → Type 0
Fits latest events c = standing_at latest (changed latest c events) ≡ after_change c (standing_at latest events)

keep-last : (latest : Option ℤ) (e : Standing) → stands latest e ≡ true → standing_at latest (e ∷ []) ≡ e ∷ []
keep-last latest e h = simp h refl

start-fits : (latest : Option ℤ) (events : List Standing) (e : Standing) (b c : Bool) (a : Result Armed ArmRefusal) → (is_fresh e && is_ahead_of latest e.start) ≡ c
    → Fits latest events (if b then Keep else (if c then by_arm_answer e a else Ignore))
start-fits latest events e true c a h = refl
start-fits latest events e false false a h = refl
start-fits latest events e false true (Ok New) h =
    filter-append (stands latest) events (e ∷ [])
    ∙ ap (λ l. standing_at latest events ++ l) (keep-last latest e (starting-stands latest e (and_parts (is_fresh e) (is_ahead_of latest e.start) h).1))
start-fits latest events e false true (Ok Same) h = refl
start-fits latest events e false true (Err f) h = refl

abbrev is_taken : Result Armed ShortenRefusal → Bool
is_taken (Ok a) = true
is_taken (Err f) = false

refused-not-taken : {X : Type 0} (f : ShortenRefusal) → Err f ≡ Ok New → X
refused-not-taken f is = absurd (true≢false (sym (ap is_taken is)))

-- an end that is taken lies ahead
new-ahead-of : (latest : Option ℤ) (time : ℤ) (s : Standing) (ahead : Bool) → (if not ahead then Err BadEnd
    else if s.cancelled then Err BadEnd else if int_eq time (end_of s) then Ok Same else if is_early_end s time then Ok New else Err BadEnd) ≡ Ok New → ahead ≡ true
new-ahead-of latest time s true is = refl
new-ahead-of latest time s false is = refused-not-taken BadEnd is

new-ahead : (latest : Option ℤ) (id : ℕ) (time : ℤ) (found : Option Standing) → shorten_answer_of latest time found ≡ Ok New → is_ahead_of latest time ≡ true
new-ahead latest id time None is = refused-not-taken NothingToShorten is
new-ahead latest id time (Some s) is = new-ahead-of latest time s (is_ahead_of latest time) is

end-fits : (latest : Option ℤ) (events : List Standing) (id : ℕ) (time : ℤ) (a : Result Armed ShortenRefusal) → shorten_answer latest (standing_at latest events) id time ≡ a
    → Fits latest events (by_shorten_answer id time a)
end-fits latest events id time (Ok New) h =
    let ahead = new-ahead latest id time (find (has_id id) (standing_at latest events)) h in
    filter-with_first (stands latest) (has_id id) (ending_at time) (λ s _. ending-stands latest time ahead s) events
end-fits latest events id time (Ok Same) h = refl
end-fits latest events id time (Err f) h = refl

cancel-fits : (latest : Option ℤ) (events : List Standing) (id : ℕ) (a : Result (Unit {0}) CancelRefusal) → Fits latest events (by_cancel_answer id a)
cancel-fits latest events id (Ok u) = filter-with_first (stands latest) (has_id id) cancelled_one (cancelled-stands latest) events
cancel-fits latest events id (Err f) = refl

pub change-fits : (latest : Option ℤ) (events : List Standing) (asked : Asked)
    → standing_at latest (changed latest (change latest (standing_at latest events) asked) events) ≡ after_change (change latest (standing_at latest events) asked) (standing_at latest events)
change-fits latest events (Start e) =
    let n = on_line latest e in
    start-fits latest events n (list_any (repeats n) (standing_at latest events)) (is_fresh n && is_ahead_of latest n.start) (arm_answer (standing_at latest events) n) refl
change-fits latest events (End id time) = end-fits latest events id (place latest time) (shorten_answer latest (standing_at latest events) id (place latest time)) refl
change-fits latest events (Cancel id) = cancel-fits latest events id (cancel_answer latest (standing_at latest events) id)
change-fits latest events Unfit = refl
change-fits latest events Nothing = refl
