-- What holds of events at every past.
use Rattle.std.specs.Prelude.{ℤ, ◌≤ℤ◌}
use Rattle.std.proofs.Common.{◌≡◌, ℕ, ◌≤◌, List, [], ◌∷◌, length, true, false, not, ◌&&◌, ap, Option, arith}
use Rattle.ts_packet.proofs.Cases.{by_test, true_or_false}
use Rattle.splice_laws.specs.Splicing.{PlayedEvent, SliceUnit, TimedStream, at_or_past, holds, break_stands, comes, passed, opens, begun, closed, front, out_of}
use Rattle.splice_laws.specs.Laws.{Risen, IsStream, OutGrows}
use Rattle.splice_laws.proofs.TimeLemmas.{stands-later, past_lower, holds-past, holds-below, due-later}
use Rattle.splice_laws.proofs.StepLemmas.{step_passed, step_lower, step_dead, step_begun, step_inside, count-grows}

front-later : (us : List SliceUnit) (h h' : Option ℤ) → Risen h h' → front us h ≤ front us h'
front-later [] h h' k = omega arith
front-later (u ∷ us) h h' k =
    let i = front-later us h h' k in
    by_test (at_or_past u.time h)
    (λ d. simp (d, due-later u.time h h' k d) (omega arith))
    (λ d. simp d (omega arith))

front-within : (us : List SliceUnit) (h : Option ℤ) → front us h ≤ length us
front-within [] h = omega arith
front-within (u ∷ us) h =
    let i = front-within us h in
    by_test (at_or_past u.time h) (λ d. simp d (omega arith)) (λ d. simp d (omega arith))

module _ (r : TimedStream) (k : IsStream r) where
  pub passed-lower : (a b : ℤ) → a ≤ℤ b → (past : List (List ℕ)) → passed r b past ≡ true → passed r a past ≡ true
  passed-lower a b l [] h = h
  passed-lower a b l (p ∷ past) h =
      step_lower (passed r b past) (comes r b p past) (passed r a past) (comes r a p past) (passed-lower a b l past)
      (comes-lower a b l p past) h where
        comes-lower : (a b : ℤ) → a ≤ℤ b → (p : List ℕ) (past : List (List ℕ)) → comes r b p past ≡ true → comes r a p past ≡ true
        comes-lower a b l p past h = by_test (r.begins p past)
            (λ s. let e = simp s at h in simp s (past_lower a b (r.time (p ∷ past)) l e))
            (λ s. let e = simp s at h in cc)

  -- an event that has begun is passed
  pub begun-passed : (x : PlayedEvent) (past : List (List ℕ)) → begun r x past ≡ true → passed r x.start past ≡ true
  begun-passed x [] h = h
  begun-passed x (p ∷ past) h = step_passed (begun r x past) (passed r x.start past) (comes r x.start p past) (break_stands x (r.high past)) (begun-passed x past) h

  -- one that is passed and has not begun will not
  pub passed-dead : (x : PlayedEvent) (past : List (List ℕ)) → passed r x.start past ≡ true → begun r x past ≡ false → break_stands x (r.high past) ≡ false
  passed-dead x [] h g = cc
  passed-dead x (p ∷ past) h g =
      step_dead (passed r x.start past) (comes r x.start p past) (begun r x past) (break_stands x (r.high past)) (break_stands x (r.high (p ∷ past)))
      (passed-dead x past) (stands-later x (r.high past) (r.high (p ∷ past)) (k.rises p past)) h g

  pub closed-begun : (x : PlayedEvent) (past : List (List ℕ)) → closed r x past ≡ true → begun r x past ≡ true
  closed-begun x [] h = h
  closed-begun x (p ∷ past) h =
      step_begun (closed r x past) (begun r x past) (opens r x p past) (r.begins p past && not (holds x (r.time (p ∷ past)))) (closed-begun x past) h

  -- from its begin until it is closed, the stream's unit lies inside it
  pub running-inside : (x : PlayedEvent) (past : List (List ℕ)) → begun r x past ≡ true → closed r x past ≡ false → holds x (r.time past) ≡ true
  running-inside x [] h g = cc
  running-inside x (p ∷ past) h g =
      step_inside (r.begins p past) (begun r x past) (at_or_past x.start (r.time (p ∷ past))) (break_stands x (r.high past)) (closed r x past) (holds x (r.time past)) (holds x (r.time (p ∷ past)))
      (running-inside x past) (λ s. ap (holds x) (k.steady p past s)) h g

  -- THE LAW OF GROWTH
  pub out-grows : (x : PlayedEvent) (units : List SliceUnit) (p : List ℕ) (past : List (List ℕ)) → out_of r x units past ≤ out_of r x units (p ∷ past)
  out-grows x units p past =
      count-grows (closed r x past) (begun r x past) (opens r x p past) (r.begins p past && not (holds x (r.time (p ∷ past)))) (length units) (front units (r.high past)) (front units (r.high (p ∷ past)))
      (front-within units (r.high past)) (front-later units (r.high past) (r.high (p ∷ past)) (k.rises p past)) (front-within units (r.high (p ∷ past))) (closed-begun x past)

  -- two events never run together
  pub alone : (x y : PlayedEvent) → x.stop ≤ℤ y.start → (past : List (List ℕ)) → begun r x past ≡ true → closed r x past ≡ false → begun r y past ≡ true → closed r y past ≡ false → ⊥
  alone x y l past b c b' c' =
      true_or_false (at_or_past y.start (r.time past)) (holds-past y (r.time past) (running-inside y past b' c')) (holds-below x (r.time past) y.start (running-inside x past b c) l)

pub out_grows : OutGrows
out_grows r k x units p past = out-grows r k x units p past
