-- What is known at the end is the report.
use Rattle.std.proofs.Common.{◌≡◌, ℕ, ◌+◌, List, [], ◌∷◌, Bool, true, false, not, ◌&&◌, ◌||◌, refl, sym, ap, ◌∙◌, subst, Option, None, Some, arith, map}
use Rattle.std.specs.Prelude.{ℤ, filter, count_by, Contains, is_some, option_map}
use Rattle.std.specs.List.{list_any, AllByRecursion}
use Rattle.std.proofs.lemmas.Bool.{true≢false}
use Rattle.program_laws.proofs.FaultLemmas.{Each-map, Each-both}
use Rattle.ts_packet.proofs.Cases.{by_test}
use Rattle.unit_stream.specs.Times.{high}
use Rattle.psi_tables.specs.ProgramMap.{ProgramMap}
use Rattle.program_follower.specs.Program.{known_map, program_in}
use Rattle.event_table.specs.Standing.{Standing, end_of, stands}
use Rattle.armed_events.specs.Arming.{standing}
use Rattle.armed_events.specs.Valuing.{values_by}
use Rattle.armed_laws.proofs.MeetLemmas.{none-meet}
use Rattle.splice_laws.specs.Splicing.{stream}
use Rattle.splice_laws.proofs.PidLemmas.{pids_are_streams}
use Rattle.splice_laws.proofs.SettledLemmas.{switched_pids_are_within}
use Rattle.splice_plans.specs.declared.plan.Plan.{Plan}
use Rattle.splice_plans.specs.Playing.{Adverts, History, is_played, as_played, end_known, is_crossed}
use Rattle.splice_plans.specs.Switching.{Setting, switched_at, high_at, events_at, history_at, is_behind_head}
use Rattle.splice_plans.specs.Histories.{IsHistory, AreSteady}
use Rattle.splice_plans.specs.Parts.{beside}
use Rattle.splice_plans.specs.Known.{plan_found, crossed_known, is_crossed_known, adverts_at, behind_at, plans_at, is_forgotten}
use Rattle.event_table.specs.Counting.{one_if}
use Rattle.splice_plans.specs.Reporting.{is_not_fitted, is_unconditioned, is_any}
use Rattle.splice_plans.proofs.HistoryLemmas.{armed_is_history}
use Rattle.known_laws.specs.Laws.{AreFaultless, IsWholeReport, ReportsAreWhole, PlansTellCrossings}
use Rattle.known_laws.proofs.HeadLemmas.{none-armed, history-now}
use Rattle.known_laws.proofs.AheadLemmas.{all-in}
use Rattle.known_laws.proofs.CountLemmas.{count-cons, same-count}
use Rattle.known_laws.proofs.CrossLemmas.{unit-near}
use Rattle.known_laws.proofs.PassLemmas.{each-fact, ordered, IsFound, itself, IsSettledIn, settled-all}
use Rattle.known_laws.proofs.CrossedLemmas.{AllNear, crossed-as}

-- ---- the plans beside the events that stand

each-filter : {X : Type 0} (P : X → Type 0) (f : X → Bool) (xs : List X) → AllByRecursion P xs → AllByRecursion P (filter f xs)
each-filter P f [] h = tt
each-filter P f (x ∷ xs) h = by_test (f x) (λ y. simp y (h.0, each-filter P f xs h.1)) (λ n. simp n (each-filter P f xs h.1))

pub plans_tell_crossings : PlansTellCrossings
plans_tell_crossings k past =
    told (filter (stands (high_at k past)) es) (each-filter (IsFound es) (stands (high_at k past)) es (itself es (none-meet k.cue_pid (high_at k) past)))
  where
    es : List Standing
    es = events_at k past

    told : (some : List Standing) → AllByRecursion (IsFound (events_at k past)) some
        → map (λ (plan : Plan). plan.is_crossed) (values_by (plans_at k past (behind_at k past)) some) ≡ map (is_crossed_known (switched_at k past) (adverts_at k past) (history_at k past) (behind_at k past)) some
    told [] h = refl
    told (e ∷ some) h =
        ap (λ o. (plan_found (switched_at k past) (adverts_at k past) (history_at k past) (behind_at k past) o).is_crossed ∷ map (λ (plan : Plan). plan.is_crossed) (values_by (plans_at k past (behind_at k past)) some)) h.0
        ∙ ap (λ l. is_crossed_known (switched_at k past) (adverts_at k past) (history_at k past) (behind_at k past) e ∷ l) (told some h.1)

-- ---- counts beside plans

first-same : (a b : Bool) (xs ys : List Bool) → a ∷ xs ≡ b ∷ ys → a ≡ b
first-same a b xs ys h = cc

rest-same : (a b : Bool) (xs ys : List Bool) → a ∷ xs ≡ b ∷ ys → xs ≡ ys
rest-same a b xs ys h = cc

module _ (t : Standing → Bool → Bool) (g : Standing → Bool) where
  abbrev crossings : List Plan → List Bool
  crossings plans = map (λ (plan : Plan). plan.is_crossed) plans

  count-beside : (some : List Standing) (plans : List Plan) → crossings plans ≡ map g some → count_by (λ (x : Standing × Plan). t x.0 x.1.is_crossed) (beside some plans) ≡ count_by (λ e. t e (g e)) some
  count-beside [] plans h = refl
  count-beside (e ∷ some) [] h = cc
  count-beside (e ∷ some) (plan ∷ plans) h =
      let here = first-same plan.is_crossed (g e) (crossings plans) (map g some) h in
      let f : Standing × Plan → Bool = λ x. t x.0 x.1.is_crossed in
      let counted : Standing → Bool = λ x. t x (g x) in
      count-cons f (e, plan) (beside some plans)
      ∙ ap (λ b. one_if (t e b) + count_by f (beside some plans)) here
      ∙ ap (λ (n : ℕ). one_if (t e (g e)) + n) (count-beside some plans (rest-same plan.is_crossed (g e) (crossings plans) (map g some) h))
      ∙ sym (count-cons counted e some)

-- ---- those that stand, and those that do not

module _ (latest : Option ℤ) (a : Standing → Bool) where
  abbrev gone : Standing → Bool
  gone e = is_forgotten latest e && a e

  sum-standing : (n l x r s y : ℕ) → x ≡ n + l → r ≡ s → y ≡ n + (l + s) → x + r ≡ y
  sum-standing n l x r s y h i j = omega (arith, h, i, j)

  sum-gone : (n l r s y : ℕ) → r ≡ n + s → y ≡ n + (l + s) → l + r ≡ y
  sum-gone n l r s y h i = omega (arith, h, i)

  none-of : (d : Bool) (n : ℕ) → d ≡ false → one_if d + n ≡ n
  none-of true n k = absurd (true≢false k)
  none-of false n k = omega arith

  both-one : (e : Standing) (es : List Standing) (f : Bool) → stands latest e ≡ f → count_by a (filter (stands latest) es) + count_by gone es ≡ count_by a es
      → count_by a (filter (stands latest) (e ∷ es)) + count_by gone (e ∷ es) ≡ count_by a (e ∷ es)
  both-one e es true h before =
      let here : filter (stands latest) (e ∷ es) ≡ e ∷ filter (stands latest) es = simp h refl in
      let first : count_by a (filter (stands latest) (e ∷ es)) ≡ one_if (a e) + count_by a (filter (stands latest) es) = ap (count_by a) here ∙ count-cons a e (filter (stands latest) es) in
      let rest : count_by gone (e ∷ es) ≡ count_by gone es = count-cons gone e es ∙ none-of (gone e) (count_by gone es) (ap (λ d. not d && a e) h) in
      sum-standing (one_if (a e)) (count_by a (filter (stands latest) es)) (count_by a (filter (stands latest) (e ∷ es))) (count_by gone (e ∷ es)) (count_by gone es) (count_by a (e ∷ es))
      first rest (count-cons a e es ∙ ap (λ (n : ℕ). one_if (a e) + n) (sym before))
  both-one e es false h before =
      let here : filter (stands latest) (e ∷ es) ≡ filter (stands latest) es = simp h refl in
      let rest : count_by gone (e ∷ es) ≡ one_if (a e) + count_by gone es = count-cons gone e es ∙ ap (λ d. one_if (not d && a e) + count_by gone es) h in
      ap (λ l. count_by a l + count_by gone (e ∷ es)) here
      ∙ sum-gone (one_if (a e)) (count_by a (filter (stands latest) es)) (count_by gone (e ∷ es)) (count_by gone es) (count_by a (e ∷ es)) rest (count-cons a e es ∙ ap (λ (n : ℕ). one_if (a e) + n) (sym before))

  pub both-counted : (es : List Standing) → count_by a (filter (stands latest) es) + count_by gone es ≡ count_by a es
  both-counted [] = refl
  both-counted (e ∷ es) = both-one e es (stands latest e) refl (both-counted es)

-- ---- the crossings of the end

module _ (switched : List ℕ) (ads : Adverts) (steady : AreSteady ads) (events : History) (h : IsHistory (high switched) events) where
  near-all : (pid : ℕ) → Contains switched pid → (e : Standing) (past : List (List ℕ)) → AreFaultless switched past
      → AllNear (stream switched pid) (pids_are_streams switched pid) (as_played e) (ordered e) past
  near-all pid c e [] f = tt
  near-all pid c e (p ∷ past) f = ((λ y gone. unit-near switched pid c (as_played e) p past y f.0 gone), near-all pid c e past f.1)

  module _ (past : List (List ℕ)) (f : AreFaultless switched past) where
    abbrev IsAs : Standing → ℕ → Type 0
    IsAs e pid = crossed_known (stream switched pid) (as_played e) (end_known ads events e.start) past ≡ (is_crossed (stream switched pid) e.start past || is_crossed (stream switched pid) (end_of e) past)

    abbrev IsAsOn : List ℕ → Standing → Type 0
    IsAsOn pids e = is_played ads e ≡ true → AllByRecursion (IsAs e) pids

    abbrev IsAsAll : Standing → Type 0
    IsAsAll e = is_played ads e ≡ true → is_crossed_known switched ads events past e ≡ is_unconditioned switched past e

    any-as : (e : Standing) (pids : List ℕ) → AllByRecursion (IsAs e) pids
        → list_any (λ pid. crossed_known (stream switched pid) (as_played e) (end_known ads events e.start) past) pids
        ≡ list_any (λ pid. is_crossed (stream switched pid) e.start past || is_crossed (stream switched pid) (end_of e) past) pids
    any-as e [] h = refl
    any-as e (pid ∷ pids) h = both h.0 (any-as e pids h.1)
      where
        both : {a b c d : Bool} → a ≡ b → c ≡ d → (a || c) ≡ (b || d)
        both h k = rw (h, k) refl

    as-on : (pids : List ℕ) → AllByRecursion (Contains switched) pids → AllByRecursion (IsAsOn pids) (events past)
    as-on [] all = each-fact (IsAsOn []) (λ e. λ plays. tt) (events past)
    as-on (pid ∷ pids) all =
        let settled = IsSettledIn switched pid all.0 ads steady events h past in
        Each-map (λ e. settled e × IsAsOn pids e) (IsAsOn (pid ∷ pids))
        (λ e s. λ plays. (
          crossed-as (stream switched pid) (pids_are_streams switched pid) (as_played e) (ordered e) (switched_pids_are_within switched pid all.0)
              (end_known ads events e.start) past (s.0 plays) (near-all pid all.0 e past f),
          s.1 plays,
        )) (events past)
        (Each-both settled (IsAsOn pids) (events past) (settled-all switched pid all.0 ads steady events h [] past) (as-on pids all.1))

    pub all-as : AllByRecursion IsAsAll (events past)
    all-as = Each-map (IsAsOn switched) IsAsAll (λ e s. λ plays. any-as e switched (s plays)) (events past) (as-on switched (all-in switched))

-- ---- the report

module _ (k : Setting) (past : List (List ℕ)) (plans : List Plan) (steady : AreSteady (adverts_at k past)) (f : AreFaultless (switched_at k past) (behind_at k past)) where
  abbrev sw : List ℕ
  sw = switched_at k past

  abbrev ads : Adverts
  ads = adverts_at k past

  abbrev known : Standing → Bool
  known e = is_crossed_known (switched_at k past) (adverts_at k past) (history_at k past) (behind_at k past) e

  abbrev IsKnownAs : Standing → Type 0
  IsKnownAs e = is_played ads e ≡ true → known e ≡ is_unconditioned sw (behind_at k past) e

  known-by : (o : Option ProgramMap) → known_map (Some k.program) past ≡ o → AllByRecursion IsKnownAs (events_at k past)
  known-by None none = subst (λ l. AllByRecursion IsKnownAs l) (sym (none-armed k past none)) tt
  known-by (Some m) is =
      let behind : is_behind_head k past ≡ true = ap (λ o. is_some (option_map program_in o)) is in
      subst (λ l. AllByRecursion IsKnownAs l) (history-now k past)
      (all-as sw ads steady (history_at k past) (armed_is_history k past behind) (behind_at k past) f)

  same-one : (e : Standing) → IsKnownAs e → (is_played ads e && known e) ≡ (is_played ads e && is_unconditioned sw (behind_at k past) e)
  same-one e h = by (is_played ads e) (known e) (is_unconditioned sw (behind_at k past) e) h
    where
      by : (q a b : Bool) → (q ≡ true → a ≡ b) → (q && a) ≡ (q && b)
      by true a b h = h refl
      by false a b h = refl

  whole : map (λ (plan : Plan). plan.is_crossed) plans ≡ map known (standing k.cue_pid (high_at k) past) → IsWholeReport k past plans
  whole h =
      let es = events_at k past in
      let some = standing k.cue_pid (high_at k) past in
      let a : Standing → Bool = λ e. is_played ads e && known e in
      let b : Standing → Bool = λ e. is_played ads e && is_unconditioned sw (behind_at k past) e in
      record {
        played = ap (λ (n : ℕ). n + count_by (gone (high_at k past) (is_played ads)) es) (count-beside (λ e c. is_any e && is_played ads e) known some plans h) ∙ both-counted (high_at k past) (is_played ads) es;
        not_fitted = ap (λ (n : ℕ). n + count_by (gone (high_at k past) (is_not_fitted ads)) es) (count-beside (λ e c. is_any e && is_not_fitted ads e) known some plans h) ∙ both-counted (high_at k past) (is_not_fitted ads) es;
        unconditioned = ap (λ (n : ℕ). n + count_by (gone (high_at k past) a) es) (count-beside (λ e c. is_any e && (is_played ads e && c)) known some plans h) ∙ both-counted (high_at k past) a es
            ∙ same-count a b es (Each-map IsKnownAs (λ e. a e ≡ b e) same-one es (known-by (known_map (Some k.program) past) refl));
      }

pub reports_are_whole : ReportsAreWhole
reports_are_whole k past plans steady f h = whole k past plans steady f h
