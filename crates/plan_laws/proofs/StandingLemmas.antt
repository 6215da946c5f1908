-- The events that stand, the streams, and what is said of each.
use Rattle.std.proofs.Common.{◌≡◌, ℕ, zero, suc, ◌==◌, ◌<◌, List, [], ◌∷◌, ◌++◌, Bool, true, false, not, ◌&&◌, ◌||◌, inl, inr, refl, sym, ap, ◌∙◌, Option, Some, arith, length, map}
use Rattle.std.specs.Prelude.{slice_get, slice_index_or, find, filter}
use Rattle.std.specs.List.{AllByRecursion}
use Rattle.std.specs.Ordering.{int_eq}
use Rattle.std.proofs.lemmas.Bool.{true≢false, and_parts}
use Rattle.ts_packet.proofs.Cases.{by_test, test-same}
use Rattle.ts_packet.specs.Fields.{payload_on, unit_start}
use Rattle.ts_packet.specs.Duplicates.{repeats}
use Rattle.unit_stream.specs.Times.{begins, begins_one}
use Rattle.psi_tables.specs.declared.stream.Stream.{Stream}
use Rattle.event_table.specs.Standing.{Standing}
use Rattle.armed_events.specs.Valuing.{values_by}
use Rattle.armed_laws.specs.Laws.{NoneMeet}
use Rattle.splice_laws.specs.Streams.{IsOnce}
use Rattle.splice_laws.proofs.StreamLemmas.{same-pid}
use Rattle.splice_plans.specs.Playing.{Adverts, History}
use Rattle.splice_plans.specs.Known.{AreSeparate, plan_at, plan_found, plan_known}
use Rattle.program_follower.specs.Faults.{pids_in}
use Rattle.ts_packet.proofs.FieldLemmas.{among-get}
use Rattle.plan_laws.proofs.ToldLemmas.{IsFoundIn, all-found}

-- ---- of some events, those that pass

module _ (test : Standing → Bool) (P : Standing → Type 0) where
  pub all-filter : (es : List Standing) → AllByRecursion P es → AllByRecursion P (filter test es)
  all-filter [] a = tt
  all-filter (e ∷ es) a = by_test (test e) (λ y. simp y (a.0, all-filter es a.1)) (λ y. simp y (all-filter es a.1))

pub all-pass : (test : Standing → Bool) (es : List Standing) → AllByRecursion (λ e. test e ≡ true) (filter test es)
all-pass test [] = tt
all-pass test (e ∷ es) = by_test (test e) (λ y. simp y (refl, all-pass test es)) (λ y. simp y (all-pass test es))

-- ---- the plan of each, by its start

find-plain : (f : Standing → Bool) (es : List Standing) → find (λ y. f y && true) es ≡ find f es
find-plain f [] = refl
find-plain f (e ∷ es) = by_test (f e) (λ y. simp y) (λ y. simp y (find-plain f es))

module _ (switched : List ℕ) (ads : Adverts) (events : History) (behind : List (List ℕ)) (all : List Standing) where
  abbrev always : Standing → Bool
  always e = true

  plan-one : (e : Standing) → IsFoundIn always all e → plan_at switched ads events behind all e.start ≡ plan_known switched ads events behind e
  plan-one e f = ap (plan_found switched ads events behind) (sym (find-plain (λ y. int_eq y.start e.start) all) ∙ f)

  pub plans-by : (es : List Standing) → AllByRecursion (IsFoundIn always all) es → values_by (plan_at switched ads events behind all) es ≡ map (plan_known switched ads events behind) es
  plans-by [] f = refl
  plans-by (e ∷ es) f = ap (λ x. x ∷ values_by (plan_at switched ads events behind all) es) (plan-one e f.0) ∙ ap (λ l. plan_known switched ads events behind e ∷ l) (plans-by es f.1)

  pub plans-are : NoneMeet all → (test : Standing → Bool) → values_by (plan_at switched ads events behind all) (filter test all) ≡ map (plan_known switched ads events behind) (filter test all)
  plans-are n test = plans-by (filter test all) (all-filter test (IsFoundIn always all) all (all-found always all n))

-- ---- a unit begins in one stream alone

pub once-place : (xs : List ℕ) (x j n : ℕ) → IsOnce x xs → slice_get xs j ≡ Some x → slice_get xs n ≡ Some x → j ≡ n
once-place [] x j n o h k = absurd o
once-place (y ∷ xs) x zero zero o h k = refl
once-place (y ∷ xs) x zero (suc n) (inl o) h k = absurd (true≢false (sym (among-get xs n x k) ∙ o.1))
once-place (y ∷ xs) x zero (suc n) (inr o) h k = let is : y ≡ x = cc in absurd (true≢false (sym (ap (λ z. z == x) is ∙ test-same x) ∙ o.0))
once-place (y ∷ xs) x (suc j) zero (inl o) h k = absurd (true≢false (sym (among-get xs j x h) ∙ o.1))
once-place (y ∷ xs) x (suc j) zero (inr o) h k = let is : y ≡ x = cc in absurd (true≢false (sym (ap (λ z. z == x) is ∙ test-same x) ∙ o.0))
once-place (y ∷ xs) x (suc j) (suc n) (inl o) h k = absurd (true≢false (sym (among-get xs n x k) ∙ o.1))
once-place (y ∷ xs) x (suc j) (suc n) (inr o) h k = ap suc (once-place xs x j n o.1 h k)

begins-payload : (q : ℕ) (p : List ℕ) (past : List (List ℕ)) → begins q p past ≡ true → payload_on q p ≡ true
begins-payload q p past b = (and_parts (payload_on q p) (not (repeats q p past)) (and_parts (payload_on q p && not (repeats q p past)) (unit_start p) b).0).0

pub others-begin-not : (xs : List ℕ) → AreSeparate xs → (n pid : ℕ) → slice_get xs n ≡ Some pid → (p : List ℕ) (past : List (List ℕ)) → begins pid p past ≡ true
    → (j q : ℕ) → slice_get xs j ≡ Some q → (j ≡ n → ⊥) → begins q p past ≡ false
others-begin-not xs s n pid there p past b j q is differ = by_test (begins q p past)
    (λ y.
    let same : q ≡ pid = same-pid q pid p (begins-payload q p past y) (begins-payload pid p past b) in
    let here : slice_get xs j ≡ Some pid = is ∙ ap (λ z. let o : Option ℕ = Some z in o) same in
    absurd (differ (once-place xs pid j n (s.alone pid (among-get xs n pid there)) here there)))
    (λ n. n)

pub begins-some : (xs : List ℕ) (n pid : ℕ) → slice_get xs n ≡ Some pid → (p : List ℕ) (past : List (List ℕ)) → begins pid p past ≡ true → begins_one xs p past ≡ true
begins-some [] n pid h p past b = absurd (cc)
begins-some (y ∷ xs) zero pid h p past b = let is : y ≡ pid = cc in or-one (begins y p past) (begins_one xs p past) (ap (λ q. begins q p past) is ∙ b)
  where
    or-one : (a b : Bool) → a ≡ true → (a || b) ≡ true
    or-one true b h = refl
    or-one false b h = absurd (true≢false (sym h))
begins-some (y ∷ xs) (suc n) pid h p past b = or-two (begins y p past) (begins_one xs p past) (begins-some xs n pid h p past b)
  where
    or-two : (a b : Bool) → b ≡ true → (a || b) ≡ true
    or-two true b h = refl
    or-two false b h = h

-- ---- the streams in order

pub get-done : (done : List Stream) (of : Stream) (rest : List Stream) → slice_get (pids_in (done ++ of ∷ rest)) (length done) ≡ Some of.pid
get-done [] of rest = refl
get-done (s ∷ done) of rest = get-done done of rest

pub or-done : (done : List Stream) (of : Stream) (rest : List Stream) → of ≡ slice_index_or (done ++ of ∷ rest) (length done) of
or-done [] of rest = refl
or-done (s ∷ done) of rest = or-done done of rest

pub in-done : (done : List Stream) (of : Stream) (rest : List Stream) → length done < length (done ++ of ∷ rest)
in-done [] of rest = omega arith
in-done (s ∷ done) of rest = let l = in-done done of rest in omega (arith, l)

pub get-stream : (ss : List Stream) (n pid : ℕ) (of : Stream) → slice_get (pids_in ss) n ≡ Some pid → of ≡ slice_index_or ss n of → (of.pid ≡ pid) × (n < length ss)
get-stream [] n pid of h is = absurd (cc)
get-stream (s ∷ ss) zero pid of h is = let same : s.pid ≡ pid = cc in (ap (λ (x : Stream). x.pid) is ∙ same, omega arith)
get-stream (s ∷ ss) (suc n) pid of h is = let g = get-stream ss n pid of h is in let l = g.1 in (g.0, omega (arith, l))
