-- What some writes to a text that was empty come to.
use Rattle.std.proofs.Common.{◌≡◌, ℕ, List, [], ◌∷◌, ◌++◌, Option, None, Some, IfSome, sym, ap, ◌∙◌, append_assoc, append-nil}
use Rattle.std.specs.Fmt.{WritesInCalls, WritesText}
use Rattle.std.specs.List.{FoldsTo, concat}

module _ {W : Type 0} (bytes : W → List ℕ) where
  abbrev Took : W → List ℕ → W → Type 0
  Took s text t = bytes t ≡ bytes s ++ text

  folded : (s : W) (texts : List (List ℕ)) (t : W) → FoldsTo Took s texts t → bytes t ≡ bytes s ++ concat texts
  folded s [] t same = sym (ap bytes same) ∙ sym (append-nil (bytes s))
  folded s (text ∷ rest) t steps =
      folded steps.0 rest t steps.2 ∙ ap (λ (l : List ℕ). l ++ concat rest) steps.1 ∙ append_assoc (bytes s) text (concat rest)

  -- the text is then what was written, where that is known
  pub text_of_writes : (written : Option (List ℕ)) (s t : W) → bytes s ≡ [] → WritesText Took s written t
      → IfSome written (λ text. bytes t ≡ text)
  text_of_writes None s t none wrote = tt
  text_of_writes (Some text) s t none wrote =
      folded s wrote.parts t wrote.calls ∙ ap (λ (l : List ℕ). l ++ concat wrote.parts) none ∙ wrote.whole
