-- What goes out of slices turns nothing: the events stay where they are.
use Rattle.std.proofs.Common.{◌≡◌, ℕ, zero, suc, ◌+◌, ◌%◌, ◌<◌, ◌≤◌, ◌^◌, ◌-◌, min, List, [], ◌∷◌, length, map, Bool, true, refl, sym, ap, ◌∙◌, arith}
use Rattle.std.specs.Prelude.{ℤ, Option, slice_index_or, slice_set}
use Rattle.std.proofs.lemmas.List.{length-map}
use Rattle.ts_packet.proofs.Cases.{by_test}
use Rattle.psi_tables.specs.declared.stream.Stream.{Stream}
use Rattle.event_table.specs.Standing.{Standing}
use Rattle.ad_library.specs.Advertisements.{Advertisement}
use Rattle.splice_plans.specs.declared.plan.Stage.{Stage}
use Rattle.splice_plans.specs.declared.plan.Stage.TheVariants.{Running}
use Rattle.splice_plans.specs.declared.plan.Part.{Part}
use Rattle.splice_plans.specs.declared.plan.Plan.{Plan}
use Rattle.splice_plans.specs.Turning.{waiting, part_of, with_part}
use Rattle.splice_plans.specs.Parts.{is_running, beside, runs_in, ran_plans}
use Rattle.splice_plans.specs.Fronts.{all_ran}
use Rattle.event_table.specs.Tables.{events_of, values_of}
use Rattle.armed_events.specs.declared.obeying.ArmedEvents.{ArmedEvents}
use Rattle.splice_playing.specs.declared.playing.Playing.{Playing}
use Rattle.splice_playing.specs.Courses.{stages_in, course_of, IsUnturned, CountsTurns}
use Rattle.splice_playing.proofs.DuesLemmas.{running-is, plans-beside}

-- ---- a plan

-- a part that runs stays there with more of its slice out
stages-set : (parts : List Part) (i sent : ℕ) → is_running (slice_index_or parts i waiting).stage ≡ true → stages_in (slice_set parts i (record { stage = Running; sent = sent })) ≡ stages_in parts
stages-set [] i sent h = refl
stages-set (x ∷ xs) zero sent h = ap (λ (s : Stage). s ∷ stages_in xs) (sym (running-is x.stage h))
stages-set (x ∷ xs) (suc i) sent h = ap (λ (l : List Stage). x.stage ∷ l) (stages-set xs i sent h)

course-set : (plan : Plan) (n sent : ℕ) → is_running (part_of plan n).stage ≡ true → course_of (with_part plan n (record { stage = Running; sent = sent })) ≡ course_of plan
course-set plan n sent h = ap (λ (l : List Stage). (l, plan.is_crossed)) (stages-set plan.parts (n % 8) sent h)

module _ (filed : ℕ → Option Advertisement) (streams : List Stream) (high : Option ℤ) where
  -- ---- one stream

  ran-course : (n : ℕ) (of : Stream) (es : List Standing) (plans : List Plan) → length es ≡ length plans
      → map course_of (ran_plans filed streams n of high (beside es plans)) ≡ map course_of plans
  ran-course n of [] [] h = refl
  ran-course n of [] (plan ∷ plans) h = absurd (omega (arith, h))
  ran-course n of (e ∷ es) [] h = absurd (omega (arith, h))
  ran-course n of (e ∷ es) (plan ∷ plans) h =
      by_test (runs_in filed streams n of (e, plan))
      (λ y. simp y
      (ap (λ (x : List Stage × Bool). x ∷ map course_of (map (λ (x : Standing × Plan). x.1) (beside es plans))) (course-set plan n _ y)
      ∙ ap (λ (l : List Plan). course_of plan ∷ map course_of l) (plans-beside filed streams high n of es plans (omega (arith, h)))))
      (λ y. simp y (ap (λ (l : List (List Stage × Bool)). course_of plan ∷ l) (ran-course n of es plans (omega (arith, h)))))

  -- ---- all streams

  pub ran-courses : (es : List Standing) (plans : List Plan) (number : ℕ) (rest : List Stream) → length es ≡ length plans
      → map course_of (all_ran filed streams high es plans number rest) ≡ map course_of plans
  ran-courses es plans number [] h = refl
  ran-courses es plans number (of ∷ rest) h =
      let ran = ran_plans filed streams number of high (beside es plans) in
      let one = ran-course number of es plans h in
      let many : length ran ≡ length plans = sym (length-map ran course_of) ∙ ap (λ (l : List (List Stage × Bool)). length l) one ∙ length-map plans course_of in
      ran-courses es ran (number + 1) rest (h ∙ sym many) ∙ one

-- ---- the count

pub unturned : (old new : Playing) → new.events ≡ old.events → new.forgotten ≡ old.forgotten → IsUnturned old new
unturned old new h k = record {
  events = ap (λ (e : ArmedEvents Plan). events_of e.obeyed.table) h;
  courses = ap (λ (e : ArmedEvents Plan). map course_of (values_of e.obeyed.table)) h;
  forgotten = k;
}

-- where nothing is counted, nothing has turned
pub counts-none : (old new : Playing) → new.turns ≡ old.turns → new.events ≡ old.events → new.forgotten ≡ old.forgotten → CountsTurns old new
counts-none old new t h k = record {
  rises = omega (arith, t);
  unturned = λ same below. unturned old new h k;
}

-- below the greatest u64 a count that has risen is another
pub risen : (n m : ℕ) → m ≡ min (n + 1) (2 ^ 64 - 1) → m ≡ n → m + 1 < 2 ^ 64 → ⊥
risen n m h same below = omega (arith, h, same, below)

pub rises : (n m : ℕ) → n < 2 ^ 64 → m ≡ min (n + 1) (2 ^ 64 - 1) → n ≤ m
rises n m small h = omega (arith, h, small)

pub counts-one : (old new : Playing) → old.turns < 2 ^ 64 → new.turns ≡ min (old.turns + 1) (2 ^ 64 - 1) → CountsTurns old new
counts-one old new small h = record {
  rises = rises old.turns new.turns small h;
  unturned = λ same below. absurd (risen old.turns new.turns h same below);
}

pub counts-refl : (p : Playing) → CountsTurns p p
counts-refl p = counts-none p p refl refl refl

pub counts-trans : (p q r : Playing) → CountsTurns p q → CountsTurns q r → CountsTurns p r
counts-trans p q r h k = record {
  rises = let first = h.rises in let then = k.rises in omega (arith, first, then);
  unturned = λ same below.
      let first = h.rises in
      let then = k.rises in
      let one : q.turns ≡ p.turns = omega (arith, first, then, same) in
      let other : r.turns ≡ q.turns = omega (arith, first, then, same) in
      let u = h.unturned one (omega (arith, other, below)) in
      let v = k.unturned other below in
      record { events = v.events ∙ u.events; courses = v.courses ∙ u.courses; forgotten = v.forgotten ∙ u.forgotten };
}
