-- The end of a network: the rest of the events that run.
use Rattle.std.proofs.Common.{◌≡◌, ℕ, ◌+◌, ◌≤◌, List, [], ◌∷◌, length, map, Bool, true, false, refl, sym, ap, ◌∙◌, arith, Option, None}
use Rattle.std.specs.Prelude.{ℤ}
use Rattle.std.proofs.lemmas.List.{length-map}
use Rattle.psi_tables.specs.declared.stream.Stream.{Stream}
use Rattle.event_table.specs.Standing.{Standing}
use Rattle.armed_events.specs.Arming.{standing}
use Rattle.armed_events.specs.Valuing.{values_by}
use Rattle.ad_library.specs.Advertisements.{Advertisement}
use Rattle.splice_plans.specs.declared.plan.Plan.{Plan}
use Rattle.splice_plans.specs.Parts.{beside, runs_in, ran_plans}
use Rattle.splice_plans.specs.Fronts.{all_running, all_ran}
use Rattle.splice_plans.specs.Counters.{PidSteps}
use Rattle.splice_plans.specs.Switching.{Setting, high_at}
use Rattle.splice_plans.specs.Known.{behind_at, plans_at}
use Rattle.splice_plans.specs.Stepping.{rest_by}
use Rattle.plan_laws.specs.Laws.{steps_known}
use Rattle.splice_playing.specs.Relations.{EndsWith}
use Rattle.splice_playing.proofs.BeginLemmas.{as-many}
use Rattle.splice_playing.proofs.LeftAllLemmas.{rest-is-all}

abbrev pub crossings : List Plan → List Bool
crossings plans = map (λ (plan : Plan). plan.is_crossed) plans

module _ (filed : ℕ → Option Advertisement) (streams : List Stream) (high : Option ℤ) where
  abbrev of-pairs : List (Standing × Plan) → List Bool
  of-pairs xs = map (λ (x : Standing × Plan). x.1.is_crossed) xs

  those : (xs : List (Standing × Plan)) → crossings (map (λ (y : Standing × Plan). y.1) xs) ≡ of-pairs xs
  those [] = refl
  those (x ∷ xs) = ap (λ l. x.1.is_crossed ∷ l) (those xs)

  first-pair : (n : ℕ) (of : Stream) (x : Standing × Plan) (xs : List (Standing × Plan)) (b : Bool) → runs_in filed streams n of x ≡ b → crossings (ran_plans filed streams n of high xs) ≡ of-pairs xs
      → crossings (ran_plans filed streams n of high (x ∷ xs)) ≡ of-pairs (x ∷ xs)
  first-pair n of x xs true h later = simp h (ap (λ l. x.1.is_crossed ∷ l) (those xs))
  first-pair n of x xs false h later = simp h (ap (λ l. x.1.is_crossed ∷ l) later)

  -- what goes out of an event crosses nothing
  one-stream : (n : ℕ) (of : Stream) (xs : List (Standing × Plan)) → crossings (ran_plans filed streams n of high xs) ≡ of-pairs xs
  one-stream n of [] = refl
  one-stream n of (x ∷ xs) = first-pair n of x xs (runs_in filed streams n of x) refl (one-stream n of xs)

  as-beside : (es : List Standing) (plans : List Plan) → length es ≡ length plans → of-pairs (beside es plans) ≡ crossings plans
  as-beside [] [] same = refl
  as-beside [] (plan ∷ plans) same = absurd (omega (arith, same))
  as-beside (e ∷ es) [] same = absurd (omega (arith, same))
  as-beside (e ∷ es) (plan ∷ plans) same = ap (λ l. plan.is_crossed ∷ l) (as-beside es plans (omega (arith, same)))

  as-many-plans : (es : List Standing) (n : ℕ) (of : Stream) (plans : List Plan) → length es ≡ length plans → length es ≡ length (ran_plans filed streams n of high (beside es plans))
  as-many-plans es n of plans same =
      same ∙ sym (length-map plans (λ (plan : Plan). plan.is_crossed)) ∙ ap length (sym (one-stream n of (beside es plans) ∙ as-beside es plans same))
      ∙ length-map (ran_plans filed streams n of high (beside es plans)) (λ (plan : Plan). plan.is_crossed)

  pub crossings-stay : (es : List Standing) (plans : List Plan) (n : ℕ) (rest : List Stream) → length es ≡ length plans → crossings (all_ran filed streams high es plans n rest) ≡ crossings plans
  crossings-stay es plans n [] same = refl
  crossings-stay es plans n (of ∷ rest) same =
      crossings-stay es (ran_plans filed streams n of high (beside es plans)) (n + 1) rest (as-many-plans es n of plans same)
      ∙ one-stream n of (beside es plans) ∙ as-beside es plans same

module _ (k : Setting) (filed : ℕ → Option Advertisement) (listed : List Stream) (past : List (List ℕ)) (e : EndsWith k filed listed past) where
  pub few-at-end : length listed ≤ 8
  few-at-end = let few = e.separate.few in let same = ap length e.listed_is ∙ sym (as-many k past) in omega (arith, same, few)

  pub rest-is : (steps : PidSteps) → all_running filed listed None (standing k.cue_pid (high_at k) past) (steps_known k past steps)
      (values_by (plans_at k past (behind_at k past)) (standing k.cue_pid (high_at k) past)) 0 listed ≡ rest_by k steps past
  rest-is steps =
      ap (λ l. all_running filed l None (standing k.cue_pid (high_at k) past) (steps_known k past steps) (values_by (plans_at k past (behind_at k past)) (standing k.cue_pid (high_at k) past)) 0 l) e.listed_is
      ∙ rest-is-all k filed past e.separate e.adverts_are e.packed_is steps
