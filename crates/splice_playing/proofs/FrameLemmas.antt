-- What runs in one stream does not change what runs in another.
use Rattle.std.proofs.Common.{◌≡◌, ℕ, ◌+◌, ◌%◌, ◌<◌, ◌≤◌, List, [], ◌∷◌, ◌++◌, length, map, Bool, true, false, refl, sym, ap, ◌∙◌, arith, Option, Some}
use Rattle.std.specs.Prelude.{ℤ}
use Rattle.std.proofs.lemmas.List.{get_or-set_other}
use Rattle.ts_packet.specs.Numbering.{Step}
use Rattle.psi_tables.specs.declared.stream.Stream.{Stream}
use Rattle.event_table.specs.Standing.{Standing}
use Rattle.ad_library.specs.Advertisements.{Advertisement}
use Rattle.splice_plans.specs.declared.plan.Plan.{Plan}
use Rattle.splice_plans.specs.declared.plan.Part.{Part}
use Rattle.splice_plans.specs.Turning.{part_of, waiting}
use Rattle.splice_plans.specs.Parts.{beside, runs_in, found_packets, running_packets, ran_plan, ran_plans}
use Rattle.splice_plans.specs.Fronts.{all_running}

-- the same events, with the same part in the stream of this number
abbrev pub AreAlikeIn : ℕ → List (Standing × Plan) → List (Standing × Plan) → Type 0
AreAlikeIn i [] [] = Unit {0}
AreAlikeIn i [] (y ∷ ys) = ⊥
AreAlikeIn i (x ∷ xs) [] = ⊥
AreAlikeIn i (x ∷ xs) (y ∷ ys) = (x.0 ≡ y.0) × (part_of x.1 i ≡ part_of y.1 i) × AreAlikeIn i xs ys

alike-itself : (i : ℕ) (xs : List (Standing × Plan)) → AreAlikeIn i xs xs
alike-itself i [] = tt
alike-itself i (x ∷ xs) = (refl, refl, alike-itself i xs)

module _ (filed : ℕ → Option Advertisement) (streams : List Stream) (high : Option ℤ) where
  module _ (i : ℕ) (of : Stream) (steps : List Step) where
    abbrev found : List (Standing × Plan) → List (List ℕ)
    found xs = running_packets filed streams i of high steps xs

    here-runs : (x y : Standing × Plan) → part_of x.1 i ≡ part_of y.1 i → runs_in filed streams i of x ≡ runs_in filed streams i of y
    here-runs x y same = ap (λ (p : Part). Rattle.splice_plans.specs.Parts.is_running p.stage) same

    here-puts : (x y : Standing × Plan) → x.0 ≡ y.0 → part_of x.1 i ≡ part_of y.1 i → found_packets filed streams i of high steps (Some x) ≡ found_packets filed streams i of high steps (Some y)
    here-puts x y event same =
        ap (λ (e : Standing). Rattle.splice_plans.specs.Parts.packets_in filed streams i of (Rattle.event_table.specs.Standing.on_ring e) (part_of x.1 i).sent (Rattle.splice_plans.specs.Parts.reached_by high e) steps) event
        ∙ ap (λ (p : Part). Rattle.splice_plans.specs.Parts.packets_in filed streams i of (Rattle.event_table.specs.Standing.on_ring y.0) p.sent (Rattle.splice_plans.specs.Parts.reached_by high y.0) steps) same

    found-first : (x y : Standing × Plan) (xs ys : List (Standing × Plan)) (b : Bool) → runs_in filed streams i of x ≡ b → runs_in filed streams i of y ≡ b → x.0 ≡ y.0 → part_of x.1 i ≡ part_of y.1 i → found xs ≡ found ys
        → found (x ∷ xs) ≡ found (y ∷ ys)
    found-first x y xs ys true h k event same later = simp (h, k) (here-puts x y event same)
    found-first x y xs ys false h k event same later = simp (h, k) later

    -- what runs there goes by that alone
    pub same-found : (xs ys : List (Standing × Plan)) → AreAlikeIn i xs ys → found xs ≡ found ys
    same-found [] [] a = refl
    same-found [] (y ∷ ys) a = absurd a
    same-found (x ∷ xs) [] a = absurd a
    same-found (x ∷ xs) (y ∷ ys) a =
        found-first x y xs ys (runs_in filed streams i of x) refl (sym (here-runs x y a.1)) a.0 a.1 (same-found xs ys a.2)

  module _ (i j : ℕ) (differ : (i % 8 ≡ j % 8) → ⊥) (of : Stream) where
    other-part : (x : Standing × Plan) → part_of x.1 i ≡ part_of (ran_plan filed streams j of high x) i
    other-part x = sym (get_or-set_other x.1.parts (j % 8) (i % 8) _ waiting differ)

    alike-rest : (es : List Standing) (plans : List Plan) → AreAlikeIn i (beside es plans) (beside es (map (λ (y : Standing × Plan). y.1) (beside es plans)))
    alike-rest [] plans = tt
    alike-rest (e ∷ es) [] = tt
    alike-rest (e ∷ es) (plan ∷ plans) = (refl, refl, alike-rest es plans)

    alike-first : (e : Standing) (plan : Plan) (es : List Standing) (plans : List Plan) (b : Bool) → runs_in filed streams j of (e, plan) ≡ b
        → AreAlikeIn i (beside es plans) (beside es (ran_plans filed streams j of high (beside es plans)))
        → AreAlikeIn i (beside (e ∷ es) (plan ∷ plans)) (beside (e ∷ es) (ran_plans filed streams j of high (beside (e ∷ es) (plan ∷ plans))))
    alike-first e plan es plans true h later = simp h (refl, other-part (e, plan), alike-rest es plans)
    alike-first e plan es plans false h later = simp h (refl, refl, later)

    -- another stream's part stays
    pub alike-ran : (es : List Standing) (plans : List Plan) → AreAlikeIn i (beside es plans) (beside es (ran_plans filed streams j of high (beside es plans)))
    alike-ran [] plans = tt
    alike-ran (e ∷ es) [] = tt
    alike-ran (e ∷ es) (plan ∷ plans) = alike-first e plan es plans (runs_in filed streams j of (e, plan)) refl (alike-ran es plans)

  -- ---- all streams by the plans before

  -- what goes out in these, the first of which has this number, where each goes by these plans
  abbrev pub each_running : (ℕ → List Step) → List (Standing × Plan) → ℕ → List Stream → List (List ℕ)
  each_running steps xs number [] = []
  each_running steps xs number (of ∷ rest) = running_packets filed streams number of high (steps number) xs ++ each_running steps xs (number + 1) rest

  each-same : (steps : ℕ → List Step) (xs ys : List (Standing × Plan)) (number : ℕ) (rest : List Stream) → ((i : ℕ) → number ≤ i → i < 8 → AreAlikeIn i xs ys) → number + length rest ≤ 8
      → each_running steps xs number rest ≡ each_running steps ys number rest
  each-same steps xs ys number [] same few = refl
  each-same steps xs ys number (of ∷ rest) same few =
      ap (λ l. l ++ each_running steps xs (number + 1) rest) (same-found number of (steps number) xs ys (same number (omega arith) (omega (arith, few))))
      ∙ ap (λ l. running_packets filed streams number of high (steps number) ys ++ l) (each-same steps xs ys (number + 1) rest (λ i m l. same i (omega (arith, m)) l) (omega (arith, few)))

  pub all-each : (es : List Standing) (steps : ℕ → List Step) (plans : List Plan) (number : ℕ) (rest : List Stream) → number + length rest ≤ 8
      → all_running filed streams high es steps plans number rest ≡ each_running steps (beside es plans) number rest
  all-each es steps plans number [] few = refl
  all-each es steps plans number (of ∷ rest) few =
      ap (λ l. running_packets filed streams number of high (steps number) (beside es plans) ++ l)
      (all-each es steps (ran_plans filed streams number of high (beside es plans)) (number + 1) rest (omega (arith, few))
      ∙ sym (each-same steps (beside es plans) (beside es (ran_plans filed streams number of high (beside es plans))) (number + 1) rest
      (λ i m l. alike-ran i number (λ is. omega (arith, is, m, l)) of es plans) (omega (arith, few))))
