-- One packet more in a cut.
use Rattle.std.specs.Prelude.{ℤ}
use Rattle.std.proofs.Common.{◌≡◌, ℕ, List, [], ◌∷◌, ◌++◌, Bool, true, false, sym, ap, ◌∙◌, Option, if◌then◌else◌, reverse}
use Rattle.std.proofs.lemmas.List.{append-nil}
use Rattle.unit_stream.specs.Fates.{is_cut, steps, numbered}
use Rattle.unit_cut.specs.Cutting.{cut}
use Rattle.unit_cut.proofs.Counted.{counted_cut, kept_as, cut_is, kept_is}
use Rattle.unit_cut.proofs.InOrder.{cut_snoc}

module _ (goes : Option ℤ → Bool) (sw : List ℕ) (pid : ℕ) where
  pub cut_kept : (ps : List (List ℕ)) (p : List ℕ) → is_cut goes sw pid p (reverse ps) ≡ false
      → cut goes sw pid (ps ++ p ∷ []) ≡ cut goes sw pid ps ++ numbered pid p (steps goes sw pid (reverse ps)) ∷ []
  cut_kept ps p h =
      cut_is goes sw pid (ps ++ p ∷ []) ∙ cut_snoc goes sw pid ps p
      ∙ ap (λ b. counted_cut goes sw pid ps ++ (if b then [] else kept_as goes sw pid p (reverse ps) ∷ [])) h
      ∙ ap (λ l. l ++ kept_as goes sw pid p (reverse ps) ∷ []) (sym (cut_is goes sw pid ps))
      ∙ ap (λ q. cut goes sw pid ps ++ q ∷ []) (sym (kept_is goes sw pid p (reverse ps)))

  pub cut_dropped : (ps : List (List ℕ)) (p : List ℕ) → is_cut goes sw pid p (reverse ps) ≡ true → cut goes sw pid (ps ++ p ∷ []) ≡ cut goes sw pid ps
  cut_dropped ps p h =
      cut_is goes sw pid (ps ++ p ∷ []) ∙ cut_snoc goes sw pid ps p
      ∙ ap (λ b. counted_cut goes sw pid ps ++ (if b then [] else kept_as goes sw pid p (reverse ps) ∷ [])) h ∙ append-nil (counted_cut goes sw pid ps) ∙ sym (cut_is goes sw pid ps)
