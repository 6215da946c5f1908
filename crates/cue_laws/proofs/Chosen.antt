-- Thinning as a relation, and as a choice.
use Rattle.std.proofs.Common.{◌≡◌, ℕ, ◌≤◌, true, false, refl, sym, ap, ◌∙◌, subst, List, [], ◌∷◌, length, nat_lt, arith}
use Rattle.std.specs.Prelude.{if◌then◌else◌}
use Rattle.std.proofs.lemmas.Bool.Decides.{nat_tests}
use Rattle.cue_laws.specs.Events.{Turn, Started, Cancelled, Ended, Passed}
use Rattle.cue_laws.specs.Thinning.{times, thinned, IsThinned}
use Rattle.cue_laws.specs.Laws.{ThinnedIsChosen, CuedGrows}
use Rattle.cue_laws.proofs.Path.{front_cued}

pub cued_grows : CuedGrows
cued_grows front later = front_cued front later

-- choices that agree on all fronts leave the same
agree : (f g : List Turn → ℕ) (all : List Turn) → ((s : List Turn) → length s ≤ length all → f s ≡ g s) → thinned f all ≡ thinned g all
agree f g [] same = refl
agree f g (Started id start end ∷ past) same =
    ap (λ n. times n (Started id start end) (thinned f past)) (same (Started id start end ∷ past) (omega arith))
    ∙ ap (times (g (Started id start end ∷ past)) (Started id start end)) (agree f g past (λ s l. same s (omega (arith, l))))
agree f g (Cancelled id ∷ past) same =
    ap (λ n. times n (Cancelled id) (thinned f past)) (same (Cancelled id ∷ past) (omega arith))
    ∙ ap (times (g (Cancelled id ∷ past)) (Cancelled id)) (agree f g past (λ s l. same s (omega (arith, l))))
agree f g (Ended id time ∷ past) same =
    ap (λ n. times n (Ended id time) (thinned f past)) (same (Ended id time ∷ past) (omega arith))
    ∙ ap (times (g (Ended id time ∷ past)) (Ended id time)) (agree f g past (λ s l. same s (omega (arith, l))))
agree f g (Passed h ∷ past) same = ap (λ l. Passed h ∷ l) (agree f g past (λ s l. same s (omega (arith, l))))

-- one more choice, for the fronts longer than this one
abbrev more : ℕ → List Turn → (List Turn → ℕ) → List Turn → ℕ
more n past copies s = if nat_lt (length past) (length s) then n else copies s

more-here : (n : ℕ) (c : Turn) (past : List Turn) (copies : List Turn → ℕ) → more n past copies (c ∷ past) ≡ n
more-here n c past copies = let t : nat_lt (length past) (length (c ∷ past)) ≡ true = grind (arith, nat_tests) in simp t

more-before : (n : ℕ) (past : List Turn) (copies : List Turn → ℕ) → thinned (more n past copies) past ≡ thinned copies past
more-before n past copies = agree (more n past copies) copies past (λ s l. let t : nat_lt (length past) (length s) ≡ false = grind (arith, nat_tests, l) in simp t)

abbrev Chosen : List Turn → List Turn → Type 0
Chosen all left = (copies : List Turn → ℕ) × (thinned copies all ≡ left)

chosen : (all left : List Turn) → IsThinned all left → Chosen all left
chosen [] left t = ((λ s. 1), sym t)
chosen (Started id start end ∷ past) left t =
    let r = chosen past t.1 t.3 in (
      more t.0 past r.0,
      ap (λ n. times n (Started id start end) (thinned (more t.0 past r.0) past)) (more-here t.0 (Started id start end) past r.0)
          ∙ ap (times t.0 (Started id start end)) (more-before t.0 past r.0 ∙ r.1) ∙ sym t.2,
    )
chosen (Cancelled id ∷ past) left t =
    let r = chosen past t.1 t.3 in (
      more t.0 past r.0,
      ap (λ n. times n (Cancelled id) (thinned (more t.0 past r.0) past)) (more-here t.0 (Cancelled id) past r.0)
          ∙ ap (times t.0 (Cancelled id)) (more-before t.0 past r.0 ∙ r.1) ∙ sym t.2,
    )
chosen (Ended id time ∷ past) left t =
    let r = chosen past t.1 t.3 in (
      more t.0 past r.0,
      ap (λ n. times n (Ended id time) (thinned (more t.0 past r.0) past)) (more-here t.0 (Ended id time) past r.0)
          ∙ ap (times t.0 (Ended id time)) (more-before t.0 past r.0 ∙ r.1) ∙ sym t.2,
    )
chosen (Passed h ∷ past) left t = let r = chosen past t.0 t.2 in (r.0, ap (λ l. Passed h ∷ l) r.1 ∙ sym t.1)

is_thinned : (copies : List Turn → ℕ) (all : List Turn) → IsThinned all (thinned copies all)
is_thinned copies [] = refl
is_thinned copies (Started id start end ∷ past) = (copies (Started id start end ∷ past), thinned copies past, refl, is_thinned copies past)
is_thinned copies (Cancelled id ∷ past) = (copies (Cancelled id ∷ past), thinned copies past, refl, is_thinned copies past)
is_thinned copies (Ended id time ∷ past) = (copies (Ended id time ∷ past), thinned copies past, refl, is_thinned copies past)
is_thinned copies (Passed h ∷ past) = (thinned copies past, refl, is_thinned copies past)

pub thinned_is_chosen : ThinnedIsChosen
thinned_is_chosen all left = (λ t. chosen all left t, λ c. subst (IsThinned all) c.1 (is_thinned c.0 all))
