use Rattle.std.proofs.Common.{◌≡◌, ◌==◌, ℕ, List, [], ◌∷◌, length, drop, refl, sym, ap, ◌∙◌, arith}
use Rattle.break_lists.proofs.WordLemmas.{cut_behind, cut_without}
use Rattle.break_lists.proofs.words.cut_at.Goals as goal

nothing : (xs : List ℕ) → length xs ≡ 0 → xs ≡ []
nothing [] h = refl
nothing (x ∷ xs) h = absurd (omega (arith, h))

pub returns-in-Some-clause-behind : goal.returns-in-Some-clause-behind
returns-in-Some-clause-behind c =
    cut_behind (λ x. x == c.args.at) c.args.text.now c.in-Some.field-0-0.now c.in-Some.behind.now
    (sym (c.split_at.ensures.back ∙ ap (λ n. drop n c.args.text.now) c.place_of.ensures.value) ∙ c.in-Some.ensures.cases.0)

pub returns-in-None-clause-behind : goal.returns-in-None-clause-behind
returns-in-None-clause-behind c =
    cut_without (λ x. x == c.args.at) c.args.text.now
    (sym (c.split_at.ensures.back ∙ ap (λ n. drop n c.args.text.now) c.place_of.ensures.value) ∙ nothing c.split_at.result.1.now c.in-None.ensures.cases)
