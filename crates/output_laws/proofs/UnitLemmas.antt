-- The units read off the output of a gapless run.
use Rattle.std.specs.Prelude.{◌==◌, filter, flat_map}
use Rattle.std.proofs.Common.{◌≡◌, ℕ, ◌<◌, List, [], ◌∷◌, ◌++◌, true, false, refl, sym, ap, ◌∙◌, Option, None, Some, append_assoc}
use Rattle.std.proofs.lemmas.List.{append-nil}
use Rattle.std.proofs.lemmas.Bool.{eqb-true}
use Rattle.ts_packet.specs.Fields.{pid_of, pcr, payload_on, unit_start, bytes}
use Rattle.ts_packet.specs.Duplicates.{repeats, Gapless}
use Rattle.ts_packet.specs.Numbering.{number_out, last_number, one_past}
use Rattle.ts_packet.specs.Runs.{seen_after}
use Rattle.ts_packet.proofs.Cases.{by_test, test-same}
use Rattle.ts_packet.proofs.FieldLemmas.{payload_on-on, payload_on-renumbered, start-renumbered, bytes-renumbered, below_16}
use Rattle.ts_packet.proofs.RunLemmas.{onto, gapless_glue, gapless_back}
use Rattle.unit_stream.specs.Units.{is_original, rest_of_unit, units_of, payloads}
use Rattle.unit_stream.specs.UnitPackets.{AllOn, GoOn, BeginsAlone}
use Rattle.splice_laws.specs.Splicing.{SliceUnit}
use Rattle.output_laws.specs.Output.{Move, Keep, Leave, Put, network, Packing, counter_steps, clock_alone, out_after, Sound, Place, Keeping, Leaving, Between, behind_put, place, KeepsUnitsWhole, has_come, HasComeBefore, AlongMoves, units_out}
use Rattle.output_laws.specs.Laws.{OutputHasUnits}
use Rattle.unit_stream.proofs.PackedLemmas.{AllOriginal}
use Rattle.output_laws.proofs.StepLemmas.{onto_moves, network_onto, out_back, along_past, kept_on, payload_on-kept, payload_on-clock}
use Rattle.output_laws.proofs.GaplessLemmas.{one_below, other_pid, Here, here, kept_repeats, kept_new, put_originals_here}

-- what is left of the unit that runs, where it is kept
abbrev pub rest_at : Place → List ℕ → List ℕ
rest_at Keeping r = r
rest_at Leaving r = []
rest_at Between r = []

rest_none : (st : Place) → rest_at st [] ≡ []
rest_none Keeping = refl
rest_none Leaving = refl
rest_none Between = refl

put_rest : (st : Place) (r : List ℕ) → (behind_put st ≡ Between → r ≡ []) → rest_at st r ≡ []
put_rest Keeping r h = h refl
put_rest Leaving r h = refl
put_rest Between r h = refl

rest_behind : (st : Place) (r : List ℕ) → rest_at (behind_put st) r ≡ []
rest_behind Keeping r = refl
rest_behind Leaving r = refl
rest_behind Between r = refl

cons_both : (bs a a' : List ℕ) (l l' : List (List ℕ)) → a ≡ a' → l ≡ l' → (bs ++ a) ∷ l ≡ (bs ++ a') ∷ l'
cons_both bs a a' l l' e f = rw (e, f) refl

pub between : {P : Type 0} (st : Place) → st ≡ Between → st ≡ Keeping → P
between st h k = cc

pub between_left : {P : Type 0} (st : Place) → st ≡ Between → st ≡ Leaving → P
between_left st h k = cc

-- ---- the network's packets of the unit that runs

module _ (pid : ℕ) where
  abbrev pub rest_of : List Move → List Move → List ℕ
  rest_of past ss = rest_of_unit (filter (is_original pid) (seen_after (network past) (network ss)))

  -- behind a unit put in there are none
  pub no_more : (past ss : List Move) → AlongMoves (KeepsUnitsWhole pid) (onto_moves past ss) → place pid past ≡ Between → rest_of past ss ≡ []
  no_more past [] w h = refl
  no_more past (Keep p ∷ ss) w h =
      let here = (along_past (KeepsUnitsWhole pid) (Keep p ∷ past) ss w).0 in
      by_test (payload_on pid p)
      (λ y. by_test (repeats pid p (network past))
      (λ r. between (place pid past) h (here y (simp (y, r))))
      (λ r. by_test (unit_start p)
      (λ s. simp (y, r, s))
      (λ s. between (place pid past) h (here y (simp (y, r, s))))))
      (λ y. let i = no_more (Keep p ∷ past) ss w in let f = simp y at i in simp y (f h))
  no_more past (Leave p ∷ ss) w h =
      let here = (along_past (KeepsUnitsWhole pid) (Leave p ∷ past) ss w).0 in
      by_test (payload_on pid p)
      (λ y. by_test (repeats pid p (network past))
      (λ r. between_left (place pid past) h (here y (simp (y, r))))
      (λ r. by_test (unit_start p)
      (λ s. simp (y, r, s))
      (λ s. between_left (place pid past) h (here y (simp (y, r, s))))))
      (λ y. let i = no_more (Leave p ∷ past) ss w in let f = simp y at i in simp y (f h))
  no_more past (Put q u ∷ ss) w h =
      by_test (q == pid)
      (λ e. let i = no_more (Put q u ∷ past) ss w in let f = simp (e, h) at i in f refl)
      (λ e. let i = no_more (Put q u ∷ past) ss w in let f = simp e at i in f h)

  -- ---- packets put in

  abbrev read : List (List ℕ) → List (List ℕ) → List ℕ
  read O qs = rest_of_unit (filter (is_original pid) (seen_after O qs))

  read_put : (qs tail O : List (List ℕ)) → AllOriginal pid O qs → GoOn qs → read O (qs ++ tail) ≡ flat_map bytes qs ++ read (onto O qs) tail
  read_put [] tail O a g = refl
  read_put (q ∷ qs) tail O a g =
      let o = a.0 in let s = g.0 in
      simp (o, s) (ap (λ l. bytes q ++ l) (read_put qs tail (q ∷ O) a.1 g.1) ∙ sym (append_assoc (bytes q) (flat_map bytes qs) (read (onto (q ∷ O) qs) tail)))

  abbrev cut_at : List ℕ → List (List ℕ) → List (List ℕ) → List (List ℕ)
  cut_at sw O qs = payloads (units_of sw pid (filter (is_original pid) (seen_after O qs)))

  cut_put : (sw : List ℕ) (qs tail O : List (List ℕ)) → AllOriginal pid O qs → GoOn qs → cut_at sw O (qs ++ tail) ≡ cut_at sw (onto O qs) tail
  cut_put sw [] tail O a g = refl
  cut_put sw (q ∷ qs) tail O a g = let o = a.0 in let s = g.0 in simp (o, s) (cut_put sw qs tail (q ∷ O) a.1 g.1)

  -- packets of another PID
  skip_put : (q : ℕ) (qs tail O : List (List ℕ)) → (q == pid) ≡ false → AllOn q qs → filter (is_original pid) (seen_after O (qs ++ tail)) ≡ filter (is_original pid) (seen_after (onto O qs) tail)
  skip_put q [] tail O e a = refl
  skip_put q (p ∷ qs) tail O e a = let n = other_pid q pid p e a.0 in simp n (skip_put q qs tail (p ∷ O) e a.1)

  -- and a clock reference alone
  skip_clock : (k n : ℕ) (o : Option (List ℕ)) (tail O : List (List ℕ)) → n < 16 → filter (is_original pid) (seen_after O (clock_alone k n o ++ tail)) ≡ filter (is_original pid) (seen_after (onto O (clock_alone k n o)) tail)
  skip_clock k n None tail O h = refl
  skip_clock k n (Some c) tail O h = let y = payload_on-clock pid k n c h in simp y

  -- a unit put in is read, and nothing of the next belongs to it
  unit_put : (sw : List ℕ) (qs tail O : List (List ℕ)) (bs : List ℕ) → BeginsAlone qs → AllOriginal pid O qs → flat_map bytes qs ≡ bs → read (onto O qs) tail ≡ [] → cut_at sw O (qs ++ tail) ≡ bs ∷ cut_at sw (onto O qs) tail
  unit_put sw [] tail O bs s a j r = absurd s
  unit_put sw (q ∷ qs) tail O bs s a j r =
      let o = a.0 in let st = s.0 in
      let e : bytes q ++ read (q ∷ O) (qs ++ tail) ≡ bs = ap (λ l. bytes q ++ l) (read_put qs tail (q ∷ O) a.1 s.1 ∙ ap (λ l. flat_map bytes qs ++ l) r ∙ append-nil (flat_map bytes qs)) ∙ j in
      simp (o, st) (ap (λ l. l ∷ cut_at sw (q ∷ O) (qs ++ tail)) e ∙ ap (λ l. bs ∷ l) (cut_put sw qs tail (q ∷ O) a.1 s.1))

  starts_put : (qs tail O : List (List ℕ)) → BeginsAlone qs → AllOriginal pid O qs → read O (qs ++ tail) ≡ []
  starts_put [] tail O s a = absurd s
  starts_put (q ∷ qs) tail O s a = let o = a.0 in let st = s.0 in simp (o, st)

-- ---- the output, behind any past

module _ (packed : Packing) (pid : ℕ) (b : Option (List ℕ)) where
  pub record Good (past : List Move) : Type 0 where
    pub sound : AlongMoves (λ (s : Move) (before : List Move). Sound packed s) past
    pub whole : AlongMoves (KeepsUnitsWhole pid) past
    pub fed : AlongMoves (HasComeBefore pid) past
    pub gapless : Gapless b pid (network past)

  good_past : (past ss : List Move) → Good (onto_moves past ss) → Good past
  good_past past ss g = record {
    sound = along_past _ past ss g.sound;
    whole = along_past _ past ss g.whole;
    fed = along_past _ past ss g.fed;
    gapless = (gapless_back b pid (network past) (network ss) (rw (← network_onto past ss) g.gapless)).0;
  }

  abbrev out_rest : List Move → List Move → List ℕ
  out_rest past ss = rest_of_unit (filter (is_original pid) (seen_after (out_back packed past) (out_after packed past ss)))

  rest_put_same : (u : SliceUnit) (past ss : List Move) → Sound packed (Put pid u) → has_come pid (network past) ≡ true → Here packed pid b past → AlongMoves (KeepsUnitsWhole pid) (onto_moves (Put pid u ∷ past) ss)
      → out_rest past (Put pid u ∷ ss) ≡ rest_at (place pid past) (rest_of pid past (Put pid u ∷ ss))
  rest_put_same u past ss s f h w =
      let E = counter_steps packed pid past in
      let qs = packed pid u (one_past (last_number E)) in
      let k = s (one_past (last_number E)) (one_below (last_number E)) in
      let t = test-same pid in
      let n = no_more pid (Put pid u ∷ past) ss w in
      starts_put pid qs (out_after packed (Put pid u ∷ past) ss) (out_back packed past) k.starts (put_originals_here packed pid b u past s f h)
      ∙ sym (put_rest (place pid past) (rest_of pid past (Put pid u ∷ ss)) (λ e. n (simp t e)))

  rest_after : (past ss : List Move) → Good (onto_moves past ss) → out_rest past ss ≡ rest_at (place pid past) (rest_of pid past ss)
  rest_after past [] g = sym (rest_none (place pid past))
  rest_after past (Keep p ∷ ss) g =
      let i = rest_after (Keep p ∷ past) ss g in
      let at = good_past (Keep p ∷ past) ss g in
      let h = here packed pid b past at.sound.1 at.whole.1 at.fed.1 at.gapless.1 in
      let w = at.whole.0 in
      by_test (payload_on pid p)
      (λ y. let o = payload_on-on pid p y in let e = kept_on packed pid p past o in by_test (repeats pid p (network past))
      (λ r. let kept = kept_repeats packed pid b p past w h y r in
      let st = w y (simp (y, r)) in let f = simp (y, r, o, e, payload_on-renumbered, kept) at i in simp (y, r, o, e, payload_on-renumbered, kept, st) f)
      (λ r. let kept = kept_new packed pid b p past at.gapless.0 h y r in by_test (unit_start p)
      (λ s. simp (y, r, s, o, e, payload_on-renumbered, start-renumbered, kept) (sym (rest_none (place pid past))))
      (λ s. let st = w y (simp (y, r, s)) in let f = simp (y, r, s, o, e) at i in
      simp (y, r, s, o, e, payload_on-renumbered, start-renumbered, bytes-renumbered, kept, st) (ap (λ l. bytes p ++ l) f))))
      (λ y. let f = simp y at i in simp (y, payload_on-kept) f)
  rest_after past (Leave p ∷ ss) g =
      let i = rest_after (Leave p ∷ past) ss g in
      let w = (good_past (Leave p ∷ past) ss g).whole.0 in
      ap rest_of_unit (skip_clock pid (pid_of p) (number_out p (counter_steps packed (pid_of p) (Leave p ∷ past))) (pcr p) (out_after packed (Leave p ∷ past) ss) (out_back packed past) (below_16 _))
      ∙ i ∙ by_test (payload_on pid p)
      (λ y. by_test (repeats pid p (network past))
      (λ r. let st = w y (simp (y, r)) in simp (y, r, st))
      (λ r. by_test (unit_start p)
      (λ s. simp (y, r, s) (sym (rest_none (place pid past))))
      (λ s. let st = w y (simp (y, r, s)) in simp (y, r, s, st))))
      (λ y. simp y)
  rest_after past (Put q u ∷ ss) g =
      let i = rest_after (Put q u ∷ past) ss g in
      let at = good_past (Put q u ∷ past) ss g in
      let h = here packed pid b past at.sound.1 at.whole.1 at.fed.1 at.gapless in
      by_test (q == pid)
      (λ e. let j = eqb-true q pid e in rw j (rest_put_same u past ss (rw j at at.sound.0) (at.fed.0 e) h (rw j at g.whole)))
      (λ e.
      let qs = packed q u (one_past (last_number (counter_steps packed q past))) in
      let k = at.sound.0 (one_past (last_number (counter_steps packed q past))) (one_below (last_number (counter_steps packed q past))) in
      ap rest_of_unit (skip_put pid q qs (out_after packed (Put q u ∷ past) ss) (out_back packed past) e k.on_pid) ∙ i ∙ simp e)

  module _ (sw : List ℕ) where
    abbrev out_cut : List Move → List Move → List (List ℕ)
    out_cut past ss = cut_at pid sw (out_back packed past) (out_after packed past ss)

    units_put_same : (u : SliceUnit) (past ss : List Move) → Sound packed (Put pid u) → has_come pid (network past) ≡ true → Here packed pid b past
        → out_rest (Put pid u ∷ past) ss ≡ rest_at (place pid (Put pid u ∷ past)) (rest_of pid (Put pid u ∷ past) ss)
        → out_cut (Put pid u ∷ past) ss ≡ units_out pid (Put pid u ∷ past) ss → out_cut past (Put pid u ∷ ss) ≡ units_out pid past (Put pid u ∷ ss)
    units_put_same u past ss s f h r i =
        let E = counter_steps packed pid past in
        let qs = packed pid u (one_past (last_number E)) in
        let k = s (one_past (last_number E)) (one_below (last_number E)) in
        let t = test-same pid in
        let z : rest_at (place pid (Put pid u ∷ past)) (rest_of pid (Put pid u ∷ past) ss) ≡ [] = simp t (rest_behind (place pid past) (rest_of pid (Put pid u ∷ past) ss)) in
        unit_put pid sw qs (out_after packed (Put pid u ∷ past) ss) (out_back packed past) u.payload k.starts (put_originals_here packed pid b u past s f h) k.joined (r ∙ z)
        ∙ ap (λ l. u.payload ∷ l) i ∙ sym (simp t)

    units_after : (past ss : List Move) → Good (onto_moves past ss) → out_cut past ss ≡ units_out pid past ss
    units_after past [] g = refl
    units_after past (Keep p ∷ ss) g =
        let i = units_after (Keep p ∷ past) ss g in
        let x = rest_after (Keep p ∷ past) ss g in
        let at = good_past (Keep p ∷ past) ss g in
        let h = here packed pid b past at.sound.1 at.whole.1 at.fed.1 at.gapless.1 in
        let w = at.whole.0 in
        by_test (payload_on pid p)
        (λ y. let o = payload_on-on pid p y in let e = kept_on packed pid p past o in by_test (repeats pid p (network past))
        (λ r. let kept = kept_repeats packed pid b p past w h y r in let f = simp e at i in simp (y, r, e, payload_on-renumbered, kept) f)
        (λ r. let kept = kept_new packed pid b p past at.gapless.0 h y r in let f = simp e at i in by_test (unit_start p)
        (λ s. let d = simp (y, e) at x in simp (y, r, s, e, payload_on-renumbered, start-renumbered, bytes-renumbered, kept) (cons_both (bytes p) _ _ _ _ d f))
        (λ s. simp (y, r, s, e, payload_on-renumbered, start-renumbered, kept) f)))
        (λ y. simp (y, payload_on-kept) i)
    units_after past (Leave p ∷ ss) g =
        ap (λ l. payloads (units_of sw pid l)) (skip_clock pid (pid_of p) (number_out p (counter_steps packed (pid_of p) (Leave p ∷ past))) (pcr p) (out_after packed (Leave p ∷ past) ss) (out_back packed past) (below_16 _))
        ∙ units_after (Leave p ∷ past) ss g
    units_after past (Put q u ∷ ss) g =
        let i = units_after (Put q u ∷ past) ss g in
        let x = rest_after (Put q u ∷ past) ss g in
        let at = good_past (Put q u ∷ past) ss g in
        let h = here packed pid b past at.sound.1 at.whole.1 at.fed.1 at.gapless in
        by_test (q == pid)
        (λ e. let j = eqb-true q pid e in rw j (units_put_same u past ss (rw j at at.sound.0) (at.fed.0 e) h (rw j at x) (rw j at i)))
        (λ e.
        let qs = packed q u (one_past (last_number (counter_steps packed q past))) in
        let k = at.sound.0 (one_past (last_number (counter_steps packed q past))) (one_below (last_number (counter_steps packed q past))) in
        ap (λ l. payloads (units_of sw pid l)) (skip_put pid q qs (out_after packed (Put q u ∷ past) ss) (out_back packed past) e k.on_pid) ∙ i ∙ sym (simp e))

pub output_has_units : OutputHasUnits
output_has_units packed pid b sw moves r f k =
    units_after packed pid b sw [] moves (record {
      sound = r.sound;
      whole = r.whole;
      fed = f;
      gapless = rw (network_onto [] moves) (gapless_glue b pid [] (network moves) tt k);
    })
