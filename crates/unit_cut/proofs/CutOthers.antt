-- What the cut leaves as it was: the packets that are not the PID's.
use Rattle.std.specs.Prelude.{ℤ}
use Rattle.std.proofs.Common.{◌≡◌, ℕ, List, [], ◌∷◌, Bool, false, refl, ap, ◌∙◌, Option}
use Rattle.ts_packet.specs.Fields.{on, payload_on}
use Rattle.ts_packet.specs.Runs.{others}
use Rattle.ts_packet.proofs.Cases.{by_test}
use Rattle.ts_packet.proofs.FieldLemmas.{on-renumbered, payload_on-on}
use Rattle.unit_stream.specs.Fates.{is_cut}
use Rattle.unit_cut.proofs.Counted.{cut_is}
use Rattle.unit_cut.specs.Laws.{CutLeavesOthers}
use Rattle.unit_cut.proofs.InOrder.{cut_after}

module _ (goes : Option ℤ → Bool) (sw : List ℕ) (pid : ℕ) where
  others_more : (p : List ℕ) (past ps : List (List ℕ)) → others pid (cut_after goes sw pid (p ∷ past) ps) ≡ others pid ps → others pid (cut_after goes sw pid past (p ∷ ps)) ≡ others pid (p ∷ ps)
  others_more p past ps h =
      by_test (on pid p)
      (λ o. by_test (is_cut goes sw pid p past)
      (λ c. simp (c, o) h)
      (λ c. simp (c, o, on-renumbered) h))
      (λ o.
      let c : payload_on pid p ≡ false = by_test (payload_on pid p) (λ y. let f = payload_on-on pid p y in cc) (λ y. y) in
      simp (c, o) (ap (λ l. p ∷ l) h))

  pub others_after : (past ps : List (List ℕ)) → others pid (cut_after goes sw pid past ps) ≡ others pid ps
  others_after past [] = refl
  others_after past (p ∷ ps) = others_more p past ps (others_after (p ∷ past) ps)

pub cut_leaves_others : CutLeavesOthers
cut_leaves_others goes sw pid ps = ap (others pid) (cut_is goes sw pid ps) ∙ others_after goes sw pid [] ps
