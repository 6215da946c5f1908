-- Of the events that run nothing is due any more once what is due has gone out; and where nothing is due, nothing goes out.
use Rattle.std.proofs.Common.{◌≡◌, ℕ, zero, suc, ◌+◌, ◌%◌, ◌<◌, ◌≤◌, List, [], ◌∷◌, ◌++◌, length, map, drop, Bool, true, false, if◌then◌else◌, refl, sym, ap, subst, ◌∙◌, arith, Option, None, Some, ◌==◌}
use Rattle.std.specs.Prelude.{ℤ, find, slice_index_or, slice_set, slice_get}
use Rattle.std.proofs.lemmas.Option.{none-some, same_Some}
use Rattle.std.proofs.lemmas.Bool.{true≢false}
use Rattle.std.proofs.lemmas.List.{set-get_or, drop-drop}
use Rattle.ts_packet.specs.Numbering.{Step}
use Rattle.ts_packet.proofs.Cases.{by_test}
use Rattle.psi_tables.specs.declared.stream.Stream.{Stream}
use Rattle.event_table.specs.Standing.{Standing, on_ring}
use Rattle.ad_library.specs.Advertisements.{AdvertUnit, Advertisement}
use Rattle.splice_plans.specs.declared.plan.Stage.{Stage}
use Rattle.splice_plans.specs.declared.plan.Stage.TheVariants.{Waiting, Running, Closing, Over}
use Rattle.splice_plans.specs.declared.plan.Part.{Part}
use Rattle.splice_plans.specs.declared.plan.Plan.{Plan}
use Rattle.splice_plans.specs.Slicing.{is_due, due_units, slice_packets}
use Rattle.splice_plans.specs.Turning.{waiting, part_of, with_part}
use Rattle.splice_plans.specs.Parts.{is_running, delta_in, slice_in, units_in, beside, runs_in, reached_by, ran_plans, found_packets}
use Rattle.splice_plans.specs.Fronts.{all_running, running_of, all_ran}
use Rattle.plan_laws.proofs.PlanLemmas.{pick-first, pick-second}
use Rattle.splice_playing.specs.Dues.{NoneDueOf, NoneDueIn, NoneDue}
use Rattle.splice_playing.proofs.FrameLemmas.{AreAlikeIn, alike-ran}

-- ---- what is due of a slice

-- behind the units that were due the next one is not
due-out : (reached : Option ℕ) (us : List AdvertUnit) → due_units reached (drop (length (due_units reached us)) us) ≡ []
due-out reached [] = refl
due-out reached (u ∷ us) = by_test (is_due reached u) (λ y. simp y (due-out reached us)) (λ n. simp n refl)

none-behind : (reached : Option ℕ) (sent : ℕ) (us : List AdvertUnit) → due_units reached (drop (sent + length (due_units reached (drop sent us))) us) ≡ []
none-behind reached sent us =
    let n = length (due_units reached (drop sent us)) in
    ap (due_units reached) (sym (drop-drop n sent us)) ∙ due-out reached (drop sent us)

-- ---- the part of a plan in a stream

-- one that runs is there
part-set : (parts : List Part) (i : ℕ) (part : Part) → is_running (slice_index_or parts i waiting).stage ≡ true → slice_index_or (slice_set parts i part) i waiting ≡ part
part-set [] i part h = absurd (true≢false (sym h))
part-set (x ∷ xs) zero part h = refl
part-set (x ∷ xs) (suc i) part h = part-set xs i part h

pub running-is : (stage : Stage) → is_running stage ≡ true → stage ≡ Running
running-is Waiting h = absurd (true≢false (sym h))
running-is Running h = refl
running-is Closing h = absurd (true≢false (sym h))
running-is Over h = absurd (true≢false (sym h))

-- with the part that it has, it stays as it is
same-plan : (plan : Plan) (n more : ℕ) → is_running (part_of plan n).stage ≡ true → more ≡ 0 → with_part plan n (record { stage = Running; sent = (part_of plan n).sent + more }) ≡ plan
same-plan plan n more h k =
    let build : List Part → Plan = λ parts. record { parts = parts; is_crossed = plan.is_crossed } in
    let part : Stage → ℕ → Part = λ stage sent. record { stage = stage; sent = sent } in
    ap (λ (s : Stage). build (slice_set plan.parts (n % 8) (part s ((part_of plan n).sent + more)))) (sym (running-is (part_of plan n).stage h))
    ∙ ap (λ m. build (slice_set plan.parts (n % 8) (part (part_of plan n).stage m))) (let e : (part_of plan n).sent + more ≡ (part_of plan n).sent = omega (arith, k) in e)
    ∙ ap build (set-get_or plan.parts (n % 8) waiting)

module _ (filed : ℕ → Option Advertisement) (streams : List Stream) (high : Option ℤ) where
  -- ---- one stream

  module _ (n : ℕ) (of : Stream) where
    abbrev runs : Standing × Plan → Bool
    runs x = runs_in filed streams n of x

    abbrev ran : List (Standing × Plan) → List Plan
    ran xs = ran_plans filed streams n of high xs

    pub plans-beside : (es : List Standing) (plans : List Plan) → length es ≡ length plans → map (λ (x : Standing × Plan). x.1) (beside es plans) ≡ plans
    plans-beside [] [] h = refl
    plans-beside [] (plan ∷ plans) h = absurd (omega (arith, h))
    plans-beside (e ∷ es) [] h = absurd (omega (arith, h))
    plans-beside (e ∷ es) (plan ∷ plans) h = ap (λ l. plan ∷ l) (plans-beside es plans (omega (arith, h)))

    puts-nothing : (steps : List Step) (o : Option (Standing × Plan)) → NoneDueOf filed streams high n of o → found_packets filed streams n of high steps o ≡ []
    puts-nothing steps None h = refl
    puts-nothing steps (Some x) h = ap (slice_packets of.pid (delta_in (on_ring x.0).start (filed (on_ring x.0).program)) steps) h

    found-here : (x : Standing × Plan) (xs : List (Standing × Plan)) → runs x ≡ true → find runs (x ∷ xs) ≡ Some x
    found-here x xs y = simp y refl

    found-later : (x : Standing × Plan) (xs : List (Standing × Plan)) → runs x ≡ false → find runs (x ∷ xs) ≡ find runs xs
    found-later x xs y = simp y refl

    -- where nothing is due the plans stay
    ran-same : (es : List Standing) (plans : List Plan) → length es ≡ length plans → NoneDueIn filed streams high es plans n of → ran (beside es plans) ≡ plans
    ran-same [] [] l h = refl
    ran-same [] (plan ∷ plans) l h = absurd (omega (arith, l))
    ran-same (e ∷ es) [] l h = absurd (omega (arith, l))
    ran-same (e ∷ es) (plan ∷ plans) l h = by_test (runs (e, plan))
        (λ y.
        let none : units_in filed streams n of (on_ring e) (part_of plan n).sent (reached_by high e) ≡ [] = subst (NoneDueOf filed streams high n of) (found-here (e, plan) (beside es plans) y) h in
        pick-first _ _ (runs (e, plan)) y
        ∙ ap (λ x. x ∷ map (λ (x : Standing × Plan). x.1) (beside es plans)) (same-plan plan n (length (units_in filed streams n of (on_ring e) (part_of plan n).sent (reached_by high e))) y (ap length none))
        ∙ ap (λ l. plan ∷ l) (plans-beside es plans (omega (arith, l))))
        (λ y.
        pick-second _ _ (runs (e, plan)) y
        ∙ ap (λ l. plan ∷ l) (ran-same es plans (omega (arith, l)) (subst (NoneDueOf filed streams high n of) (found-later (e, plan) (beside es plans) y) h)))

    -- once what is due has gone out nothing is
    ran-settles : (es : List Standing) (plans : List Plan) → NoneDueIn filed streams high es (ran (beside es plans)) n of
    ran-settles [] plans = tt
    ran-settles (e ∷ es) [] = tt
    ran-settles (e ∷ es) (plan ∷ plans) = by_test (runs (e, plan))
        (λ y.
        let sent = (part_of plan n).sent in
        let slice = slice_in filed streams n of (on_ring e) in
        let reached = reached_by high e in
        let part : Part = record { stage = Running; sent = sent + length (units_in filed streams n of (on_ring e) sent reached) } in
        let set : part_of (with_part plan n part) n ≡ part = part-set plan.parts (n % 8) part y in
        let first : ran ((e, plan) ∷ beside es plans) ≡ with_part plan n part ∷ map (λ (x : Standing × Plan). x.1) (beside es plans) = simp y refl in
        let none : units_in filed streams n of (on_ring e) (part_of (with_part plan n part) n).sent reached ≡ [] = ap (λ (q : Part). due_units reached (drop q.sent slice)) set ∙ none-behind reached sent slice in
        subst (λ ps. NoneDueIn filed streams high (e ∷ es) ps n of) (sym first)
        (subst (NoneDueOf filed streams high n of) (sym (found-here (e, with_part plan n part) (beside es (map (λ (x : Standing × Plan). x.1) (beside es plans))) (ap (λ (q : Part). is_running q.stage) set))) none))
        (λ y.
        let later : ran ((e, plan) ∷ beside es plans) ≡ plan ∷ ran (beside es plans) = simp y refl in
        subst (λ ps. NoneDueIn filed streams high (e ∷ es) ps n of) (sym later)
        (subst (NoneDueOf filed streams high n of) (sym (found-later (e, plan) (beside es (ran (beside es plans))) y)) (ran-settles es plans)))

    -- whether something is due goes by the events and their parts in the stream
    alike-none : (xs ys : List (Standing × Plan)) → AreAlikeIn n xs ys → NoneDueOf filed streams high n of (find runs xs) → NoneDueOf filed streams high n of (find runs ys)
    alike-none [] [] a h = tt
    alike-none [] (y ∷ ys) a h = absurd a
    alike-none (x ∷ xs) [] a h = absurd a
    alike-none (x ∷ xs) (y ∷ ys) a h =
        let same : runs y ≡ runs x = ap (λ (q : Part). is_running q.stage) (sym a.1) in
        by_test (runs x)
        (λ r.
        let none : units_in filed streams n of (on_ring x.0) (part_of x.1 n).sent (reached_by high x.0) ≡ [] = subst (NoneDueOf filed streams high n of) (found-here x xs r) h in
        subst (NoneDueOf filed streams high n of) (sym (found-here y ys (same ∙ r)))
        (ap (λ (e : Standing). units_in filed streams n of (on_ring e) (part_of y.1 n).sent (reached_by high e)) (sym a.0)
        ∙ ap (λ (q : Part). units_in filed streams n of (on_ring x.0) q.sent (reached_by high x.0)) (sym a.1) ∙ none))
        (λ r. subst (NoneDueOf filed streams high n of) (sym (found-later y ys (same ∙ r))) (alike-none xs ys a.2 (subst (NoneDueOf filed streams high n of) (found-later x xs r) h)))

  -- ---- all streams

  module _ (es : List Standing) where
    -- in each of these, the first of which has this number
    abbrev NoneDueFrom : List Plan → ℕ → List Stream → Type 0
    NoneDueFrom plans number [] = Unit {0}
    NoneDueFrom plans number (of ∷ rest) = NoneDueIn filed streams high es plans number of × NoneDueFrom plans (number + 1) rest

    from-all : (plans : List Plan) (rest : List Stream) (number : ℕ) → ((i : ℕ) (of : Stream) → slice_get rest i ≡ Some of → NoneDueIn filed streams high es plans (number + i) of) → NoneDueFrom plans number rest
    from-all plans [] number h = tt
    from-all plans (of ∷ rest) number h = (
      subst (λ n. NoneDueIn filed streams high es plans n of) (let e : number + 0 ≡ number = omega arith in e) (h 0 of refl),
      from-all plans rest (number + 1) (λ i other is. subst (λ n. NoneDueIn filed streams high es plans n other) (let e : number + suc i ≡ (number + 1) + i = omega arith in e) (h (suc i) other is)),
    )

    to-all : (plans : List Plan) (rest : List Stream) (number : ℕ) → NoneDueFrom plans number rest → (i : ℕ) (of : Stream) → slice_get rest i ≡ Some of → NoneDueIn filed streams high es plans (number + i) of
    to-all plans [] number h i of is = absurd (none-some of is)
    to-all plans (first ∷ rest) number h zero of is =
        subst (λ n. NoneDueIn filed streams high es plans n of) (let e : number ≡ number + 0 = omega arith in e) (subst (NoneDueIn filed streams high es plans number) (same_Some first of is) h.0)
    to-all plans (first ∷ rest) number h (suc i) of is =
        subst (λ n. NoneDueIn filed streams high es plans n of) (let e : (number + 1) + i ≡ number + suc i = omega arith in e) (to-all plans rest (number + 1) h.1 i of is)

    abbrev ran-in : ℕ → Stream → List Plan → List Plan
    ran-in n of plans = ran_plans filed streams n of high (beside es plans)

    apart-by : (m n : ℕ) → m < n → n < 8 → m % 8 ≡ n % 8 → ⊥
    apart-by m n l k h = omega (arith, l, k, h)

    all-keep : (rest : List Stream) (number : ℕ) (plans : List Plan) (m : ℕ) (other : Stream) → m < number → number + length rest ≤ 8
        → NoneDueIn filed streams high es plans m other → NoneDueIn filed streams high es (all_ran filed streams high es plans number rest) m other
    all-keep [] number plans m other l few h = h
    all-keep (of ∷ rest) number plans m other l few h =
        all-keep rest (number + 1) (ran-in number of plans) m other (omega (arith, l)) (omega (arith, few))
        (alike-none m other (beside es plans) (beside es (ran-in number of plans)) (alike-ran filed streams high m number (apart-by m number l (omega (arith, few))) of es plans) h)

    settles-from : (rest : List Stream) (number : ℕ) (plans : List Plan) → number + length rest ≤ 8 → NoneDueFrom (all_ran filed streams high es plans number rest) number rest
    settles-from [] number plans few = tt
    settles-from (of ∷ rest) number plans few = (
      all-keep rest (number + 1) (ran-in number of plans) number of (omega arith) (omega (arith, few)) (ran-settles number of es plans),
      settles-from rest (number + 1) (ran-in number of plans) (omega (arith, few)),
    )

    -- once what is due has gone out in all of them nothing is
    pub all-settle : (plans : List Plan) → 0 + length streams ≤ 8 → NoneDue filed streams high es (all_ran filed streams high es plans 0 streams)
    all-settle plans few = λ n of is.
        let after = all_ran filed streams high es plans 0 streams in
        subst (λ m. NoneDueIn filed streams high es after m of) (let e : 0 + n ≡ n = omega arith in e) (to-all after streams 0 (settles-from streams 0 plans few) n of is)

    -- where nothing is due nothing goes out, and the plans stay
    module _ (plans : List Plan) (many : length es ≡ length plans) where
      none-from : (rest : List Stream) (number : ℕ) → NoneDueFrom plans number rest → (steps : ℕ → List Step) → all_running filed streams high es steps plans number rest ≡ []
      none-from [] number h steps = refl
      none-from (of ∷ rest) number h steps =
          ap (λ l. l ++ all_running filed streams high es steps (ran-in number of plans) (number + 1) rest) (puts-nothing number of (steps number) (find (runs number of) (beside es plans)) h.0)
          ∙ ap (λ ps. all_running filed streams high es steps ps (number + 1) rest) (ran-same number of es plans many h.0)
          ∙ none-from rest (number + 1) h.1 steps

      one-from : (rest : List Stream) (number : ℕ) → NoneDueFrom plans number rest → (steps : ℕ → List Step) (i : ℕ) → running_of filed streams high es steps plans number rest i ≡ []
      one-from [] number h steps i = refl
      one-from (of ∷ rest) number h steps i =
          one-step (number == i) _ _ (puts-nothing number of (steps number) (find (runs number of) (beside es plans)) h.0)
          (ap (λ ps. running_of filed streams high es steps ps (number + 1) rest i) (ran-same number of es plans many h.0) ∙ one-from rest (number + 1) h.1 steps i)
        where
          one-step : (b : Bool) (x y : List (List ℕ)) → x ≡ [] → y ≡ [] → (if b then x else y) ≡ []
          one-step true x y h k = h
          one-step false x y h k = k

      ran-from : (rest : List Stream) (number : ℕ) → NoneDueFrom plans number rest → all_ran filed streams high es plans number rest ≡ plans
      ran-from [] number h = refl
      ran-from (of ∷ rest) number h =
          ap (λ ps. all_ran filed streams high es ps (number + 1) rest) (ran-same number of es plans many h.0) ∙ ran-from rest (number + 1) h.1

      module _ (none : NoneDue filed streams high es plans) where
        each : NoneDueFrom plans 0 streams
        each = from-all plans streams 0 (λ i of is. subst (λ n. NoneDueIn filed streams high es plans n of) (let e : i ≡ 0 + i = omega arith in e) (none i of is))

        pub all-none : (steps : ℕ → List Step) → all_running filed streams high es steps plans 0 streams ≡ []
        all-none steps = none-from streams 0 each steps

        pub one-none : (steps : ℕ → List Step) (i : ℕ) → running_of filed streams high es steps plans 0 streams i ≡ []
        one-none steps i = one-from streams 0 each steps i

        pub ran-none : all_ran filed streams high es plans 0 streams ≡ plans
        ran-none = ran-from streams 0 each
