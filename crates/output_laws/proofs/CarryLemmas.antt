-- What the output carries, with no premise on counters.
use Rattle.std.specs.Prelude.{◌==◌, filter, map, All}
use Rattle.std.proofs.Common.{◌≡◌, ℕ, ◌<◌, List, [], ◌∷◌, ◌++◌, false, refl, sym, ap, ◌∙◌, Option, None, Some, length}
use Rattle.std.proofs.lemmas.List.Elements.{All-head, All-tail}
use Rattle.std.proofs.lemmas.Bool.{eqb-true}
use Rattle.ts_packet.specs.Fields.{on, pid_of, pcr, payload_on, unit_start, bytes, renumbered}
use Rattle.ts_packet.specs.Duplicates.{repeats}
use Rattle.ts_packet.specs.Numbering.{moved, number_out, last_number, one_past}
use Rattle.ts_packet.specs.Runs.{seen_after}
use Rattle.ts_packet.proofs.Cases.{by_test, test-same}
use Rattle.ts_packet.proofs.FieldLemmas.{payload_on-on, payload_on-renumbered, start-renumbered, bytes-renumbered, below_16}
use Rattle.ts_packet.proofs.Renumbered.{renumbered-zero}
use Rattle.unit_stream.specs.Units.{has_payload, rest_of_row}
use Rattle.unit_stream.specs.Carrying.{CarriesUnits}
use Rattle.unit_stream.specs.UnitPackets.{AllOn}
use Rattle.unit_stream.proofs.PackedLemmas.{carries_one}
use Rattle.unit_cut.proofs.CutCarries.{row_joins, first_kept}
use Rattle.splice_laws.specs.Splicing.{SliceUnit}
use Rattle.output_laws.specs.Output.{Move, Keep, Leave, Put, network, Packing, counter_steps, clock_alone, out_after, Sound, Place, Keeping, Leaving, Between, behind_put, place, KeepsUnitsWhole, AlongMoves, units_out}
use Rattle.output_laws.specs.Laws.{OutputCarriesUnits}
use Rattle.output_laws.proofs.StepLemmas.{onto_moves, along_past, kept_on, payload_on-kept, payload_on-clock}
use Rattle.output_laws.proofs.GaplessLemmas.{one_below, other_pid, es}
use Rattle.output_laws.proofs.UnitLemmas.{between, between_left, rest_of}

-- the packets of the row that runs, where it is kept
abbrev pub row_at : Place → List (List ℕ) → List (List ℕ)
row_at Keeping l = l
row_at Leaving l = []
row_at Between l = []

row_none : (st : Place) → row_at st [] ≡ []
row_none Keeping = refl
row_none Leaving = refl
row_none Between = refl

put_row : (st : Place) (n : ℕ) (l : List (List ℕ)) → (behind_put st ≡ Between → l ≡ []) → row_at st (map (renumbered n) l) ≡ []
put_row Keeping n l h = ap (map (renumbered n)) (h refl)
put_row Leaving n l h = refl
put_row Between n l h = refl

row_behind : (st : Place) (l : List (List ℕ)) → row_at (behind_put st) l ≡ []
row_behind Keeping l = refl
row_behind Leaving l = refl
row_behind Between l = refl

module _ (pid : ℕ) where
  abbrev pub row_of : List Move → List Move → List (List ℕ)
  row_of past ss = rest_of_row pid (filter (has_payload pid) (seen_after (network past) (network ss)))

  no_more_row : (past ss : List Move) → AlongMoves (KeepsUnitsWhole pid) (onto_moves past ss) → place pid past ≡ Between → row_of past ss ≡ []
  no_more_row past [] w h = refl
  no_more_row past (Keep p ∷ ss) w h =
      let here = (along_past (KeepsUnitsWhole pid) (Keep p ∷ past) ss w).0 in
      by_test (payload_on pid p)
      (λ y. by_test (repeats pid p (network past))
      (λ r. between (place pid past) h (here y (simp (y, r))))
      (λ r. by_test (unit_start p)
      (λ s. simp (y, r, s))
      (λ s. between (place pid past) h (here y (simp (y, r, s))))))
      (λ y. let i = no_more_row (Keep p ∷ past) ss w in let f = simp y at i in simp y (f h))
  no_more_row past (Leave p ∷ ss) w h =
      let here = (along_past (KeepsUnitsWhole pid) (Leave p ∷ past) ss w).0 in
      by_test (payload_on pid p)
      (λ y. by_test (repeats pid p (network past))
      (λ r. between_left (place pid past) h (here y (simp (y, r))))
      (λ r. by_test (unit_start p)
      (λ s. simp (y, r, s))
      (λ s. between_left (place pid past) h (here y (simp (y, r, s))))))
      (λ y. let i = no_more_row (Leave p ∷ past) ss w in let f = simp y at i in simp y (f h))
  no_more_row past (Put q u ∷ ss) w h =
      by_test (q == pid)
      (λ e. let i = no_more_row (Put q u ∷ past) ss w in let f = simp (e, h) at i in f refl)
      (λ e. let i = no_more_row (Put q u ∷ past) ss w in let f = simp e at i in f h)

  filter_on : (qs tail : List (List ℕ)) → AllOn pid qs → filter (payload_on pid) (qs ++ tail) ≡ qs ++ filter (payload_on pid) tail
  filter_on [] tail a = refl
  filter_on (q ∷ qs) tail a = let y = a.0 in simp y (ap (λ l. q ∷ l) (filter_on qs tail a.1))

  filter_other : (q : ℕ) (qs tail : List (List ℕ)) → (q == pid) ≡ false → AllOn q qs → filter (payload_on pid) (qs ++ tail) ≡ filter (payload_on pid) tail
  filter_other q [] tail e a = refl
  filter_other q (p ∷ qs) tail e a = let n = other_pid q pid p e a.0 in simp n (filter_other q qs tail e a.1)

  filter_clock : (k n : ℕ) (o : Option (List ℕ)) (tail : List (List ℕ)) → n < 16 → filter (payload_on pid) (clock_alone k n o ++ tail) ≡ filter (payload_on pid) tail
  filter_clock k n None tail h = refl
  filter_clock k n (Some c) tail h = let y = payload_on-clock pid k n c h in simp y

module _ (packed : Packing) (pid : ℕ) where
  abbrev CarriedAfter : List Move → List Move → Type 0
  CarriedAfter past ss =
      (left : List (List ℕ))
      × (filter (payload_on pid) (out_after packed past ss) ≡ row_at (place pid past) (map (renumbered (moved (es packed pid past))) (row_of pid past ss)) ++ left)
      × CarriesUnits left (units_out pid past ss)

  carried_keep : (p : List ℕ) (past ss : List Move) → KeepsUnitsWhole pid (Keep p) past → CarriedAfter (Keep p ∷ past) ss → CarriedAfter past (Keep p ∷ ss)
  carried_keep p past ss w h =
      let n = moved (es packed pid past) in
      by_test (payload_on pid p)
      (λ y. let o = payload_on-on pid p y in let e = kept_on packed pid p past o in by_test (repeats pid p (network past))
      (λ r. let st = w y (simp (y, r)) in let f = simp (y, o) at h in simp (y, r, e, payload_on-renumbered, st) (f.0, ap (λ l. renumbered n p ∷ l) f.1, f.2))
      (λ r. by_test (unit_start p)
      (λ s. let f = simp (y, o) at h in
      let j = simp (y, r) at (row_joins n pid (p ∷ network past) (network ss)) in
      simp (y, r, s, e, payload_on-renumbered, row_none) (
        renumbered n p ∷ filter (payload_on pid) (out_after packed (Keep p ∷ past) ss),
        refl,
        first_kept (renumbered n p) (bytes p) (rest_of pid (Keep p ∷ past) ss)
            (filter (payload_on pid) (out_after packed (Keep p ∷ past) ss)) (map (renumbered n) (row_of pid (Keep p ∷ past) ss)) f.0
            (units_out pid (Keep p ∷ past) ss)
            (start-renumbered n p ∙ s) (bytes-renumbered n p) f.1 j f.2,
      ))
      (λ s. let st = w y (simp (y, r, s)) in let f = simp (y, o) at h in simp (y, r, s, e, payload_on-renumbered, st) (f.0, ap (λ l. renumbered n p ∷ l) f.1, f.2))))
      (λ y. by_test (on pid p)
      (λ o. let f = simp (y, o) at h in simp (y, payload_on-kept) f)
      (λ o. let f = simp (y, o) at h in simp (y, payload_on-kept) f))

  carried_leave : (p : List ℕ) (past ss : List Move) → KeepsUnitsWhole pid (Leave p) past → CarriedAfter (Leave p ∷ past) ss → CarriedAfter past (Leave p ∷ ss)
  carried_leave p past ss w h =
      let c = filter_clock pid (pid_of p) (number_out p (counter_steps packed (pid_of p) (Leave p ∷ past))) (pcr p) (out_after packed (Leave p ∷ past) ss) (below_16 _) in
      by_test (payload_on pid p)
      (λ y. by_test (repeats pid p (network past))
      (λ r. let st = w y (simp (y, r)) in let f = simp y at h in simp st (f.0, c ∙ f.1, f.2))
      (λ r. by_test (unit_start p)
      (λ s. let f = simp y at h in simp (y, r, s, row_none) (f.0, c ∙ f.1, f.2))
      (λ s. let st = w y (simp (y, r, s)) in let f = simp y at h in simp st (f.0, c ∙ f.1, f.2))))
      (λ y. let f = simp y at h in simp y (f.0, c ∙ f.1, f.2))

  carried_put_same : (u : SliceUnit) (past ss : List Move) → Sound packed (Put pid u) → AlongMoves (KeepsUnitsWhole pid) (onto_moves (Put pid u ∷ past) ss) → CarriedAfter (Put pid u ∷ past) ss → CarriedAfter past (Put pid u ∷ ss)
  carried_put_same u past ss s w h =
      let E = es packed pid past in
      let qs = packed pid u (one_past (last_number E)) in
      let k = s (one_past (last_number E)) (one_below (last_number E)) in
      let t = test-same pid in
      let n = no_more_row pid (Put pid u ∷ past) ss w in
      let z = put_row (place pid past) (moved E) (row_of pid past (Put pid u ∷ ss)) (λ e. n (simp t e)) in
      let f = simp (t, row_behind) at h in
      (qs ++ f.0, filter_on pid qs (out_after packed (Put pid u ∷ past) ss) k.on_pid ∙ ap (λ l. qs ++ l) f.1 ∙ sym (ap (λ l. l ++ (qs ++ f.0)) z), simp t (qs, f.0, refl, carries_one qs u.payload k.starts k.joined, f.2))

  carried_after : (past ss : List Move) → AlongMoves (λ (s : Move) (before : List Move). Sound packed s) (onto_moves past ss) → AlongMoves (KeepsUnitsWhole pid) (onto_moves past ss) → CarriedAfter past ss
  carried_after past [] s w = ([], sym (ap (λ l. l ++ []) (row_none (place pid past))), refl)
  carried_after past (Keep p ∷ ss) s w = carried_keep p past ss (along_past (KeepsUnitsWhole pid) (Keep p ∷ past) ss w).0 (carried_after (Keep p ∷ past) ss s w)
  carried_after past (Leave p ∷ ss) s w = carried_leave p past ss (along_past (KeepsUnitsWhole pid) (Leave p ∷ past) ss w).0 (carried_after (Leave p ∷ past) ss s w)
  carried_after past (Put q u ∷ ss) s w =
      let i = carried_after (Put q u ∷ past) ss s w in
      let v = (along_past (λ (s : Move) (before : List Move). Sound packed s) (Put q u ∷ past) ss s).0 in
      by_test (q == pid)
      (λ e. let j = eqb-true q pid e in rw j (carried_put_same u past ss (rw j at v) (rw j at w) (rw j at i)))
      (λ e.
      let qs = packed q u (one_past (last_number (counter_steps packed q past))) in
      let k = v (one_past (last_number (counter_steps packed q past))) (one_below (last_number (counter_steps packed q past))) in
      let f = simp e at i in
      simp e (f.0, filter_other pid q qs (out_after packed (Put q u ∷ past) ss) e k.on_pid ∙ f.1, f.2))

module _ (pid : ℕ) where
  abbrev Unmoved : List (List ℕ) → List (List ℕ) → Type 0
  Unmoved past ps = map (renumbered 0) (rest_of_row pid (filter (has_payload pid) (seen_after past ps))) ≡ rest_of_row pid (filter (has_payload pid) (seen_after past ps))

  unmoved_more : (p : List ℕ) (past ps : List (List ℕ)) → renumbered 0 p ≡ p → Unmoved (p ∷ past) ps → Unmoved past (p ∷ ps)
  unmoved_more p past ps e h =
      by_test (payload_on pid p)
      (λ y. by_test (repeats pid p past)
      (λ r. simp (y, r, e) (ap (λ l. p ∷ l) h))
      (λ r. by_test (unit_start p)
      (λ s. simp (y, r, s))
      (λ s. simp (y, r, s, e) (ap (λ l. p ∷ l) h))))
      (λ y. simp y h)

  -- before the first unit start nothing has gone
  unmoved : (past ps : List (List ℕ)) → All (λ (p : List ℕ). length p ≡ 188) ps → Unmoved past ps
  unmoved past [] k = refl
  unmoved past (p ∷ ps) k = let f = λ (q : List ℕ). length q ≡ 188 in
      unmoved_more p past ps (renumbered-zero p (All-head f p ps k)) (unmoved (p ∷ past) ps (All-tail f p ps k))

pub output_carries_units : OutputCarriesUnits
output_carries_units packed pid moves r k =
    let h = carried_after packed pid [] moves r.sound r.whole in
    (h.0, h.1 ∙ ap (λ l. l ++ h.0) (unmoved pid [] (network moves) k), h.2)
