-- Where there is no greatest time, no event stands, and nothing goes out.
use Rattle.std.proofs.Common.{◌≡◌, ℕ, ◌+◌, ◌==◌, List, [], ◌∷◌, refl, sym, ap, ◌∙◌, subst, Option, None, Some}
use Rattle.std.specs.Prelude.{ℤ, All}
use Rattle.std.proofs.lemmas.List.Elements.{All-head}
use Rattle.ts_packet.proofs.Cases.{by_test}
use Rattle.ts_packet.specs.Numbering.{Step}
use Rattle.unit_stream.specs.Times.{stamp, raised}
use Rattle.psi_tables.specs.declared.stream.Stream.{Stream}
use Rattle.event_table.specs.Standing.{Standing, IsWithin}
use Rattle.armed_events.specs.Valuing.{values_by}
use Rattle.ad_library.specs.Advertisements.{Advertisement}
use Rattle.splice_plans.specs.Counters.{PidSteps}
use Rattle.splice_plans.specs.Switching.{streams_at, high_at}
use Rattle.splice_plans.specs.Fronts.{closing_packets, closed_plans, all_running, running_of, all_ran}
use Rattle.splice_plans.specs.Known.{behind_at, plans_at}
use Rattle.plan_laws.specs.Laws.{NothingStands, standing_before, steps_before, steps_with}
use Rattle.plan_laws.proofs.TimeLemmas.{high-raised}

module _ (filed : ℕ → Option Advertisement) (streams : List Stream) (top : Option ℤ) (steps : ℕ → List Step) where
  none-running : (rest : List Stream) (i : ℕ) → all_running filed streams top [] steps [] i rest ≡ []
  none-running [] i = refl
  none-running (of ∷ rest) i = none-running rest (i + 1)

  none-in : (rest : List Stream) (i j : ℕ) → running_of filed streams top [] steps [] i rest j ≡ []
  none-in [] i j = refl
  none-in (of ∷ rest) i j = by_test (i == j) (λ y. simp y refl) (λ y. simp y (none-in rest (i + 1) j))

  none-ran : (rest : List Stream) (i : ℕ) → all_ran filed streams top [] [] i rest ≡ []
  none-ran [] i = refl
  none-ran (of ∷ rest) i = none-ran rest (i + 1)

none-closed : (filed : ℕ → Option Advertisement) (streams : List Stream) (n : ℕ) (of : Stream) (latest : Option ℤ) (st : Option ℕ) → closed_plans filed streams n of latest st [] [] ≡ []
none-closed filed streams n of latest None = refl
none-closed filed streams n of latest (Some t) = refl

pub none-within : (es : List Standing) → All (IsWithin None) es → es ≡ []
none-within [] a = refl
none-within (e ∷ es) a = absurd (All-head (IsWithin None) e es a)

none-raised : (latest : Option ℤ) (st : Option ℕ) → raised latest st ≡ None → latest ≡ None
none-raised None st h = refl
none-raised (Some l) None h = h
none-raised (Some l) (Some t) h = absurd (cc)

pub nothing_stands : NothingStands
nothing_stands k filed n pid of p past r none =
    let latest = high_at k past in
    let top = high_at k (p ∷ past) in
    let ss = streams_at k past in
    let v = plans_at k past (behind_at k past) in
    let gone : latest ≡ None = none-raised latest (stamp p) (sym (high-raised k filed n pid p past r.starts) ∙ none) in
    let empty : standing_before k filed n of p past ≡ [] = none-within (standing_before k filed n of p past) (subst (λ l. All (IsWithin l) (standing_before k filed n of p past)) gone r.within) in
    let closed = none-closed filed ss n of latest (stamp p) in
    let between : PidSteps → List Standing → ℕ → List Step
    = λ steps es. steps_with n (closing_packets filed ss n of latest (stamp p) (steps_before k filed n of p past steps n) es (values_by v es)) (steps_before k filed n of p past steps) in
    subst (λ es. ((steps : PidSteps) → (all_running filed ss top es (between steps es) (closed_plans filed ss n of latest (stamp p) es (values_by v es)) 0 ss ≡ [])
    × ((i : ℕ) → running_of filed ss top es (between steps es) (closed_plans filed ss n of latest (stamp p) es (values_by v es)) 0 ss i ≡ []))
    × (all_ran filed ss top es (closed_plans filed ss n of latest (stamp p) es (values_by v es)) 0 ss ≡ closed_plans filed ss n of latest (stamp p) es (values_by v es))) (sym empty) (
      λ steps. (
        ap (λ plans. all_running filed ss top [] (between steps []) plans 0 ss) closed ∙ none-running filed ss top (between steps []) ss 0,
        λ i. ap (λ plans. running_of filed ss top [] (between steps []) plans 0 ss i) closed ∙ none-in filed ss top (between steps []) ss 0 i,
      ),
      ap (λ plans. all_ran filed ss top [] plans 0 ss) closed ∙ none-ran filed ss top (λ i. []) ss 0 ∙ sym closed,
    )
