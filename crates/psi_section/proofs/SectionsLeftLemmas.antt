-- The sections that bytes still have.
use Rattle.std.proofs.Common.{◌≡◌, ℕ, ◌<◌, ◌≤◌, List, [], ◌∷◌, true, false, ap, ◌∙◌, arith, length, take, drop}
use Rattle.std.specs.Prelude.{filter}
use Rattle.std.proofs.lemmas.List.{length-drop}
use Rattle.psi_section.specs.declared.front.Front.TheVariants.{Nothing, Whole, Part}
use Rattle.psi_section.specs.Sections.{front_of, Assembled, taken, is_good, is_bad}
use Rattle.psi_section.proofs.FrontLemmas.{whole_says, whole_first, part_alone, nothing_alone}

-- those that do not fail
abbrev pub good_of : List ℕ → List (List ℕ)
good_of bs = filter is_good (taken bs).finished

good_yes : (s : List ℕ) (ss : List (List ℕ)) → is_bad s ≡ false → filter is_good (s ∷ ss) ≡ s ∷ filter is_good ss
good_yes s ss h = simp h

good_no : (s : List ℕ) (ss : List (List ℕ)) → is_bad s ≡ true → filter is_good (s ∷ ss) ≡ filter is_good ss
good_no s ss h = simp h

pub left_good : (bs : List ℕ) (n : ℕ) → front_of bs ≡ Whole n → is_bad (take n bs) ≡ false → good_of bs ≡ take n bs ∷ good_of (drop n bs)
left_good bs n f y = ap (λ (x : Assembled). filter is_good x.finished) (whole_first bs n f) ∙ good_yes (take n bs) (taken (drop n bs)).finished y

pub left_failed : (bs : List ℕ) (n : ℕ) → front_of bs ≡ Whole n → is_bad (take n bs) ≡ true → good_of bs ≡ good_of (drop n bs)
left_failed bs n f y = ap (λ (x : Assembled). filter is_good x.finished) (whole_first bs n f) ∙ good_no (take n bs) (taken (drop n bs)).finished y

pub left_part : (bs : List ℕ) → front_of bs ≡ Part → good_of bs ≡ []
left_part bs f = ap (λ (x : Assembled). filter is_good x.finished) (part_alone bs f)

pub left_nothing : (bs : List ℕ) → front_of bs ≡ Nothing → good_of bs ≡ []
left_nothing bs f = ap (λ (x : Assembled). filter is_good x.finished) (nothing_alone bs f)

pub whole_fits : (bs : List ℕ) (n : ℕ) → front_of bs ≡ Whole n → (3 ≤ n) × (n ≤ length bs)
whole_fits bs n f = let w = whole_says bs n f in (w.at_least, w.there)

pub whole_shortens : (bs : List ℕ) (n : ℕ) → front_of bs ≡ Whole n → length (drop n bs) < length bs
whole_shortens bs n f = let w = whole_says bs n f in let a = w.at_least in let b = w.there in omega (arith, length-drop n bs)
