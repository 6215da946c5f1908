-- The kept packets of a gapless run are gapless.
use Rattle.std.specs.Prelude.{ℤ}
use Rattle.std.proofs.Common.{◌≡◌, ℕ, ◌*◌, List, [], ◌∷◌, Bool, false, sym, ap, ◌∙◌, subst, Option, reverse}
use Rattle.std.proofs.lemmas.List.{reverse-reverse}
use Rattle.ts_packet.specs.Fields.{on, payload_on, renumbered}
use Rattle.ts_packet.specs.Duplicates.{repeats, nearest, Gapless, IsNext, IsSame, InStep}
use Rattle.ts_packet.specs.Runs.{IsGaplessAfter}
use Rattle.ts_packet.proofs.Cases.{by_test}
use Rattle.ts_packet.proofs.FieldLemmas.{payload_on-renumbered, payload_on-on}
use Rattle.ts_packet.proofs.HistoryLemmas.{walk_is_last}
use Rattle.ts_packet.proofs.RunLemmas.{nearest_is_last, gapless_glue, gapless_back}
use Rattle.unit_stream.specs.Fates.{is_cut}
use Rattle.unit_cut.proofs.Counted.{gone, kept_as, counted_cut, cut_back, cut_is}
use Rattle.unit_cut.specs.Laws.{CutStaysGapless}
use Rattle.unit_cut.proofs.InOrder.{cut_in_order}
use Rattle.unit_cut.proofs.CutLemmas.{repeats_kept, Here, matched, next_lowered, same_lowered}

module _ (b : Option (List ℕ)) (goes : Option ℤ → Bool) (sw : List ℕ) (pid : ℕ) where
  next_of_kept : (p : List ℕ) (past : List (List ℕ)) → Here b goes sw pid past → IsNext p (nearest b pid past)
      → IsNext (renumbered (15 * gone goes sw pid past) p) (nearest b pid (cut_back goes sw pid past))
  next_of_kept p past here h = rw (nearest_is_last b pid (cut_back goes sw pid past)) (next_lowered b _ _ p _ _ here (rw (← nearest_is_last b pid past) h))

  same_of_kept : (p : List ℕ) (past : List (List ℕ)) → Here b goes sw pid past → IsSame p (nearest b pid past)
      → IsSame (renumbered (15 * gone goes sw pid past) p) (nearest b pid (cut_back goes sw pid past))
  same_of_kept p past here h = rw (nearest_is_last b pid (cut_back goes sw pid past)) (same_lowered b _ _ p _ _ here (rw (← nearest_is_last b pid past) h))

  in_step_kept : (p : List ℕ) (past : List (List ℕ)) → InStep b pid p past → Here b goes sw pid past → is_cut goes sw pid p past ≡ false
      → InStep b pid (kept_as goes sw pid p past) (cut_back goes sw pid past)
  in_step_kept p past k here stays =
      let n = gone goes sw pid past in
      by_test (on pid p)
      (λ o. by_test (payload_on pid p)
      (λ y. by_test (repeats pid p past)
      (λ r.
      let again = sym (walk_is_last pid p past) ∙ r in
      let g = simp (y, r) at stays in
      let kept = walk_is_last pid (renumbered (15 * n) p) (cut_back goes sw pid past) ∙ repeats_kept b _ _ p _ _ here g again in
      simp o (record { next = λ e. let f = simp (payload_on-renumbered, y, kept) at e in cc; same = λ _ z. let f = simp (payload_on-renumbered, y) at z in cc }))
      (λ r. simp o (record { next = λ _. next_of_kept p past here (k.next (simp (y, r))); same = λ _ z. let f = simp (payload_on-renumbered, y) at z in cc })))
      (λ y. simp o (record { next = λ e. let f = simp (payload_on-renumbered, y) at e in cc; same = λ _ _. same_of_kept p past here (k.same o y) })))
      (λ o. simp o (record {
        next = λ e. by_test (payload_on pid p) (λ y. let f = payload_on-on pid p y in cc) (λ y. let f = simp y at e in cc);
        same = λ e. cc;
      }))

  gapless_more : (p : List ℕ) (past : List (List ℕ)) → Gapless b pid (p ∷ past) → Gapless b pid (cut_back goes sw pid past) → Gapless b pid (cut_back goes sw pid (p ∷ past))
  gapless_more p past k h =
      by_test (is_cut goes sw pid p past)
      (λ c. simp c h)
      (λ c. let s = in_step_kept p past k.0 (matched b goes sw pid past k.1) c in simp c (s, h))

  gapless_kept : (past : List (List ℕ)) → Gapless b pid past → Gapless b pid (cut_back goes sw pid past)
  gapless_kept [] k = tt
  gapless_kept (p ∷ past) k = gapless_more p past k (gapless_kept past k.1)

  pub cut_gapless : (ps : List (List ℕ)) → IsGaplessAfter b pid ps → IsGaplessAfter b pid (counted_cut goes sw pid ps)
  cut_gapless ps k =
      let g : Gapless b pid (reverse ps) = gapless_glue b pid [] ps tt k in
      let h = gapless_kept (reverse ps) g in
      let e : reverse (counted_cut goes sw pid ps) ≡ cut_back goes sw pid (reverse ps) = ap reverse (cut_in_order goes sw pid ps) ∙ reverse-reverse (cut_back goes sw pid (reverse ps)) in
      (gapless_back b pid [] (counted_cut goes sw pid ps) (rw e h)).1

pub cut_stays_gapless : CutStaysGapless
cut_stays_gapless before goes sw pid ps k = subst (IsGaplessAfter before pid) (sym (cut_is goes sw pid ps)) (cut_gapless before goes sw pid ps k)
