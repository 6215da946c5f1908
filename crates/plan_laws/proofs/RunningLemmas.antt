-- The plans of all events that stand, through a unit start.
use Rattle.std.proofs.Common.{◌≡◌, ℕ, suc, ◌+◌, ◌%◌, ◌<◌, List, [], ◌∷◌, Bool, true, false, not, ◌&&◌, inl, inr, refl, sym, ap, ◌∙◌, Option, Some, arith, if◌then◌else◌, length, map}
use Rattle.std.specs.Prelude.{ℤ, slice_get, filter}
use Rattle.std.specs.List.{AllByRecursion}
use Rattle.std.proofs.lemmas.Bool.{true≢false}
use Rattle.ts_packet.proofs.Cases.{by_test}
use Rattle.unit_stream.specs.Times.{begins, begins_one, high, unit_time}
use Rattle.psi_tables.specs.declared.stream.Stream.{Stream}
use Rattle.event_table.specs.Standing.{Standing, stands}
use Rattle.armed_laws.specs.Laws.{AreApart, IsApartOf, NoneMeet}
use Rattle.ad_library.specs.Advertisements.{Advertisement}
use Rattle.splice_laws.specs.Splicing.{stream, begun, closed}
use Rattle.splice_laws.proofs.PidLemmas.{pids_are_streams}
use Rattle.splice_laws.proofs.HistoryLemmas.{alone}
use Rattle.splice_plans.specs.declared.plan.Plan.{Plan}
use Rattle.splice_plans.specs.Playing.{History, is_played, as_played}
use Rattle.splice_plans.specs.Histories.{IsHistory}
use Rattle.splice_plans.specs.Parts.{beside, all_turned, closed_plan, ran_plans, runs_in}
use Rattle.splice_plans.specs.Fronts.{all_ran}
use Rattle.splice_plans.specs.Known.{plan_known}
use Rattle.splice_plans.proofs.KnownLemmas.{contained}
use Rattle.plan_laws.proofs.StageLemmas.{none-begun}
use Rattle.plan_laws.proofs.ToldLemmas.{Told}
use Rattle.plan_laws.proofs.PartLemmas.{small-number}
use Rattle.plan_laws.proofs.PlanLemmas.{switched, ads, known, flag_begun, flag_closed, mixed_plan, IsOf, plan-unstamped, plan-stamped, runs-is, plan-runs, plan-idle, plan-end, falls, shut-flags}

seconds : (f : Standing → Plan) (es : List Standing) → map (λ (y : Standing × Plan). y.1) (beside es (map f es)) ≡ map f es
seconds f [] = refl
seconds f (e ∷ es) = ap (λ l. f e ∷ l) (seconds f es)

pub none-filter : (test : Standing → Bool) (es : List Standing) → NoneMeet es → NoneMeet (filter test es)
none-filter test [] n = tt
none-filter test (e ∷ es) n = by_test (test e) (λ y. simp y (n.0, apart-filter e es n.1, none-filter test es n.2)) (λ y. simp y (none-filter test es n.2))
  where
    apart-filter : (x : Standing) (es : List Standing) → IsApartOf x es → IsApartOf x (filter test es)
    apart-filter x [] a = tt
    apart-filter x (y ∷ es) a = by_test (test y) (λ t. simp t (a.0, apart-filter x es a.1)) (λ t. simp t (apart-filter x es a.1))

module _ (filed : ℕ → Option Advertisement) (streams : List Stream) (events : History) (p : List ℕ) (past : List (List ℕ))
    (h : IsHistory (high (switched filed streams events p past)) events) (turn : begins_one (switched filed streams events p past) p past ≡ true) where
  abbrev pids : List ℕ
  pids = switched filed streams events p past

  abbrev pub TellsOf : Standing → Type 0
  TellsOf e = Told pids (ads filed streams events p past) events p past e

  abbrev pub runs_on : ℕ → Standing → Bool
  runs_on q e = flag_begun filed streams events p past e q (p ∷ past) && not (flag_closed filed streams events p past e q (p ∷ past))

  abbrev pub mixed : ℕ → Standing → Plan
  mixed i e = mixed_plan filed streams events p past i e

  abbrev pub first : Standing → Plan
  first e = plan_known pids (ads filed streams events p past) events past e

  abbrev pub last : Standing → Plan
  last e = plan_known pids (ads filed streams events p past) events (p ∷ past) e

  -- ---- the packet closes

  module _ (n pid : ℕ) (there : slice_get pids n ≡ Some pid) (others : (j q : ℕ) → slice_get pids j ≡ Some q → (j ≡ n → ⊥) → begins q p past ≡ false) where
    pub all-unstamped : unit_time pids pid (p ∷ past) ≡ unit_time pids pid past → (es : List Standing) → AllByRecursion TellsOf es → map first es ≡ map (mixed 0) es
    all-unstamped same [] told = refl
    all-unstamped same (e ∷ es) told =
        ap (λ x. x ∷ map first es) (plan-unstamped filed streams events p past h turn e told.0 n pid there others same) ∙ ap (λ l. mixed 0 e ∷ l) (all-unstamped same es told.1)

    pub all-stamped : (small : n % 8 ≡ n) (b : begins pid p past ≡ true) (t : ℤ) → unit_time pids pid (p ∷ past) ≡ Some t → (of : Stream) → IsOf filed streams events p past n pid of
        → (es : List Standing) → AllByRecursion TellsOf es → AllByRecursion (λ e. stands (high pids past) e ≡ true) es
        → map (closed_plan filed streams n of) (beside es (all_turned (ads filed streams events p past) n t es (map first es))) ≡ map (mixed 0) es
    all-stamped small b t time_is of o [] told up = refl
    all-stamped small b t time_is of o (e ∷ es) told up =
        ap (λ x. x ∷ map (closed_plan filed streams n of) (beside es (all_turned (ads filed streams events p past) n t es (map first es))))
        (plan-stamped filed streams events p past h turn e told.0 n pid there small others b t time_is up.0 of o)
        ∙ ap (λ l. mixed 0 e ∷ l) (all-stamped small b t time_is of o es told.1 up.1)

  -- ---- two events never run together

  module _ (i q : ℕ) (there : slice_get pids i ≡ Some q) where
    pub played-run : (e : Standing) → TellsOf e → runs_on q e ≡ true → is_played (ads filed streams events p past) e ≡ true
    played-run e told y = by_test (is_played (ads filed streams events p past) e) (λ z. z)
        (λ z. absurd (true≢false (sym (shut-flags _ _ y).0 ∙ none-begun (stream pids q) (as_played e) (known filed streams events p past e) (falls filed streams events p past h e i q there) (p ∷ past) (told.now ∙ simp z refl))))

    not-both : (e x : Standing) → TellsOf e → TellsOf x → AreApart e x → runs_on q e ≡ true → runs_on q x ≡ true → ⊥
    not-both e x te tx a y z =
        let se = te.settled_now q (contained pids i q there) (played-run e te y) in
        let sx = tx.settled_now q (contained pids i q there) (played-run x tx z) in
        let fe = shut-flags _ _ y in
        let fx = shut-flags _ _ z in
        by a (sym se.0 ∙ fe.0) (sym se.1 ∙ fe.1) (sym sx.0 ∙ fx.0) (sym sx.1 ∙ fx.1)
      where
        by : AreApart e x → begun (stream pids q) (as_played e) (p ∷ past) ≡ true → closed (stream pids q) (as_played e) (p ∷ past) ≡ false
            → begun (stream pids q) (as_played x) (p ∷ past) ≡ true → closed (stream pids q) (as_played x) (p ∷ past) ≡ false → ⊥
        by (inl l) b c d f = alone (stream pids q) (pids_are_streams pids q) (as_played e) (as_played x) l (p ∷ past) b c d f
        by (inr l) b c d f = alone (stream pids q) (pids_are_streams pids q) (as_played x) (as_played e) l (p ∷ past) d f b c

    -- none of these runs
    abbrev pub NoneRun : List Standing → Type 0
    NoneRun [] = Unit {0}
    NoneRun (e ∷ es) = (runs_on q e ≡ false) × NoneRun es

    pub others-idle : (e : Standing) → TellsOf e → runs_on q e ≡ true → (es : List Standing) → AllByRecursion TellsOf es → IsApartOf e es → NoneRun es
    others-idle e te y [] told a = tt
    others-idle e te y (x ∷ es) told a = (by_test (runs_on q x) (λ z. absurd (not-both e x te told.0 a.0 y z)) (λ z. z), others-idle e te y es told.1 a.1)

    module _ (small : i % 8 ≡ i) (of : Stream) (o : IsOf filed streams events p past i q of) where
      all-idle : (es : List Standing) → AllByRecursion TellsOf es → NoneRun es → map (mixed i) es ≡ map (mixed (i + 1)) es
      all-idle [] told n = refl
      all-idle (e ∷ es) told n =
          ap (λ x. x ∷ map (mixed i) es) (plan-idle filed streams events p past h turn e told.0 i q small of o n.0) ∙ ap (λ l. mixed (i + 1) e ∷ l) (all-idle es told.1 n.1)

      pub all-run : (es : List Standing) → AllByRecursion TellsOf es → NoneMeet es
          → ran_plans filed streams i of (high pids (p ∷ past)) (beside es (map (mixed i) es)) ≡ map (mixed (i + 1)) es
      all-run [] told m = refl
      all-run (e ∷ es) told m = by_test (runs_on q e)
          (λ y.
          let run : runs_in filed streams i of (e, mixed i e) ≡ true = runs-is filed streams events p past h turn e told.0 i q small of o ∙ y in
          pick-first _ _ (runs_in filed streams i of (e, mixed i e)) run
          ∙ ap (λ x. x ∷ map (λ (y : Standing × Plan). y.1) (beside es (map (mixed i) es))) (plan-runs filed streams events p past h turn e told.0 i q small of o y)
          ∙ ap (λ l. mixed (i + 1) e ∷ l) (seconds (mixed i) es ∙ all-idle es told.1 (others-idle e told.0 y es told.1 m.1)))
          (λ y.
          let run : runs_in filed streams i of (e, mixed i e) ≡ false = runs-is filed streams events p past h turn e told.0 i q small of o ∙ y in
          pick-second _ _ (runs_in filed streams i of (e, mixed i e)) run
          ∙ ap (λ x. x ∷ ran_plans filed streams i of (high pids (p ∷ past)) (beside es (map (mixed i) es))) (plan-idle filed streams events p past h turn e told.0 i q small of o y)
          ∙ ap (λ l. mixed (i + 1) e ∷ l) (all-run es told.1 m.2))
        where
          pick-first : (x y : List Plan) (b : Bool) → b ≡ true → (if b then x else y) ≡ x
          pick-first x y true h = refl
          pick-first x y false h = absurd (true≢false (sym h))

          pick-second : (x y : List Plan) (b : Bool) → b ≡ false → (if b then x else y) ≡ y
          pick-second x y true h = absurd (true≢false h)
          pick-second x y false h = refl

  -- ---- all streams, one after another

  -- what is played in each of these, the first of which has this number
  abbrev pub AllOf : ℕ → List Stream → Type 0
  AllOf i [] = Unit {0}
  AllOf i (of ∷ rest) = (i < 8) × IsOf filed streams events p past i of.pid of × AllOf (i + 1) rest

  pub all-streams : (rest : List Stream) (i : ℕ) → AllOf i rest → (es : List Standing) → AllByRecursion TellsOf es → NoneMeet es
      → all_ran filed streams (high pids (p ∷ past)) es (map (mixed i) es) i rest ≡ map (mixed (i + length rest)) es
  all-streams [] i all es told m = ap (λ j. map (mixed j) es) (none i)
    where
      none : (i : ℕ) → i ≡ i + 0
      none i = omega arith
  all-streams (of ∷ rest) i all es told m =
      ap (λ plans. all_ran filed streams (high pids (p ∷ past)) es plans (i + 1) rest) (all-run i of.pid (all.1).there (small-number i all.0) of all.1 es told m)
      ∙ all-streams rest (i + 1) all.2 es told m
      ∙ ap (λ j. map (mixed j) es) (more i (length rest))
    where
      more : (i n : ℕ) → (i + 1) + n ≡ i + suc n
      more i n = omega arith

  pub all-last : (i : ℕ) → i ≡ length pids → (es : List Standing) → AllByRecursion TellsOf es → map (mixed i) es ≡ map last es
  all-last i is [] told = refl
  all-last i is (e ∷ es) told = ap (λ x. x ∷ map (mixed i) es) (plan-end filed streams events p past h turn e told.0 i is) ∙ ap (λ l. last e ∷ l) (all-last i is es told.1)
