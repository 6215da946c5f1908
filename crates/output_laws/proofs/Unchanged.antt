-- Where nothing is put in and nothing left out, nothing changes.
use Rattle.std.specs.Prelude.{All, map}
use Rattle.std.proofs.Common.{◌≡◌, ℕ, List, [], ◌∷◌, refl, ap, ◌∙◌, length}
use Rattle.std.proofs.lemmas.List.Elements.{All-head, All-tail}
use Rattle.ts_packet.specs.Fields.{in_error, pid_of, on}
use Rattle.ts_packet.specs.Numbering.{moved}
use Rattle.ts_packet.proofs.Cases.{by_test}
use Rattle.ts_packet.proofs.Renumbered.{renumbered-zero}
use Rattle.output_laws.specs.Output.{Move, Keep, Packing, counter_steps, kept_packet, out_after}
use Rattle.output_laws.specs.Laws.{AllKeptIsUnchanged}

module _ (packed : Packing) where
  abbrev kept : List (List ℕ) → List Move
  kept ps = map (λ (p : List ℕ). Keep p) ps

  unmoved : (pid : ℕ) (past : List (List ℕ)) → moved (counter_steps packed pid (kept past)) ≡ 0
  unmoved pid [] = refl
  unmoved pid (p ∷ past) = by_test (on pid p) (λ o. simp o (unmoved pid past)) (λ o. simp o (unmoved pid past))

  pub same_packet : (p : List ℕ) (past : List (List ℕ)) → length p ≡ 188 → kept_packet packed p (kept past) ≡ p
  same_packet p past h = by_test (in_error p) (λ e. simp e) (λ e. simp (e, unmoved (pid_of p) past) (renumbered-zero p h))

  all_same : (past ps : List (List ℕ)) → All (λ (p : List ℕ). length p ≡ 188) ps → out_after packed (kept past) (kept ps) ≡ ps
  all_same past [] h = refl
  all_same past (p ∷ ps) h =
      let f = λ (q : List ℕ). length q ≡ 188 in
      ap (λ q. q ∷ out_after packed (kept (p ∷ past)) (kept ps)) (same_packet p past (All-head f p ps h)) ∙ ap (λ l. p ∷ l) (all_same (p ∷ past) ps (All-tail f p ps h))

pub all_kept_is_unchanged : AllKeptIsUnchanged
all_kept_is_unchanged packed ps h = all_same packed [] ps h
