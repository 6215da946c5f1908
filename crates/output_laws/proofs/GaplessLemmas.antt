-- The output of a gapless run is gapless.
use Rattle.std.specs.Prelude.{◌==◌, is_some}
use Rattle.std.proofs.Common.{◌≡◌, ℕ, ◌+◌, ◌%◌, ◌<◌, List, [], ◌∷◌, Bool, true, false, refl, sym, ap, ◌∙◌, Option, None, Some, arith, length, reverse}
use Rattle.std.proofs.lemmas.Bool.{eqb-true}
use Rattle.unit_cut.proofs.Counted.{moved-dropped}
use Rattle.ts_packet.specs.declared.follower.Last.{Last}
use Rattle.ts_packet.specs.Fields.{on, pid_of, number, pcr, payload_on, renumbered}
use Rattle.ts_packet.specs.Clock.{clock_packet}
use Rattle.ts_packet.specs.Duplicates.{repeats, repeats_last, last_of, nearest, IsNext, IsSame, InStep, Gapless}
use Rattle.ts_packet.specs.Numbering.{Step, moved, number_out, last_number, one_past}
use Rattle.ts_packet.proofs.Cases.{by_test, test-same}
use Rattle.ts_packet.proofs.FieldLemmas.{alike-number, number-renumbered, payload_on-on, payload_on-renumbered, below_16, payload-some, pid_is}
use Rattle.ts_packet.proofs.HistoryLemmas.{walk_is_last}
use Rattle.ts_packet.proofs.RunLemmas.{onto, packet_or, nearest_is_last, gapless_glue, gapless_back}
use Rattle.unit_stream.specs.Times.{begins}
use Rattle.unit_stream.specs.UnitPackets.{AllOn, BeginsAlone, CountsFrom}
use Rattle.splice_laws.specs.Splicing.{SliceUnit}
use Rattle.unit_cut.proofs.CutLemmas.{and_left}
use Rattle.ts_packet.proofs.ClockLemmas.{number-clock}
use Rattle.output_laws.specs.Output.{Move, Keep, Leave, Put, network, Packing, counter_steps, kept_packet, clock_alone, output, Sound, Place, Keeping, Leaving, Between, behind_put, place, KeepsUnitsWhole, has_come, HasComeBefore, AlongMoves}
use Rattle.output_laws.specs.Laws.{OutputStaysGapless}
use Rattle.output_laws.proofs.StepLemmas.{network_onto, out_back, out_onto, payload-none, kept_on, on-kept, payload_on-kept, payload_on-clock, on-clock, pcr-error, on-same, moved-put}
use Rattle.output_laws.proofs.MatchLemmas.{Matched, repeats_kept, next_kept, next_moved, same_moved, left_moved, next_left, repeat_left, repeats_same}
use Rattle.unit_stream.proofs.PackedLemmas.{Numbered, AllOriginal, Ends, put_gapless, put_originals, put_ends}
use Rattle.output_laws.proofs.PutLemmas.{LastIs, put_last}

pub other_on : (q pid : ℕ) (p : List ℕ) → (q == pid) ≡ false → payload_on q p ≡ true → on pid p ≡ false
other_on q pid p e y = by_test (on pid p)
    (λ o. let f : q ≡ pid = sym (pid_is q p (payload_on-on q p y)) ∙ pid_is pid p o in let g : true ≡ false = sym (test-same pid) ∙ sym (ap (λ n. n == pid) f) ∙ e in cc)
    (λ o. o)

pub other_pid : (q pid : ℕ) (p : List ℕ) → (q == pid) ≡ false → payload_on q p ≡ true → payload_on pid p ≡ false
other_pid q pid p e y = by_test (payload_on pid p) (λ z. let f = payload_on-on pid p z in let g = other_on q pid p e y in cc) (λ z. z)

pub one_below : (o : Option ℕ) → one_past o < 16
one_below None = omega arith
one_below (Some n) = below_16 (n + 1)

module _ (packed : Packing) (pid : ℕ) where
  abbrev pub es : List Move → List Step
  es past = counter_steps packed pid past

  -- ---- the number out at the last payload packet

  abbrev pub Told : List Move → Type 0
  Told past = LastIs (moved (es past)) (last_of pid (network past)) (last_number (es past))

  told_again : (n : ℕ) (p : List ℕ) (r : Bool) (ol : Option Last) (le : Option ℕ) → repeats_last p ol ≡ true → LastIs n ol le → LastIs n (Some (record { packet = p; is_repeat = r })) le
  told_again n p r None le k h = cc
  told_again n p r (Some l) le k h = let a = alike-number l.packet p (and_left _ _ k) in rw (← a) h

  told_more : (s : Move) (past : List Move) → Told past → Told (s ∷ past)
  told_more (Keep p) past h =
      by_test (payload_on pid p)
      (λ y. let o = payload_on-on pid p y in let v = payload-some pid p y in simp (y, o, v))
      (λ y. by_test (on pid p)
      (λ o. let v = payload-none pid p o y in simp (y, o, v) h)
      (λ o. simp (y, o) h))
  told_more (Leave p) past h =
      by_test (payload_on pid p)
      (λ y. by_test (repeats pid p (network past))
      (λ r. simp (y, r) (told_again _ p true _ _ (sym (walk_is_last pid p (network past)) ∙ r) h))
      (λ r. simp (y, r)))
      (λ y. simp y h)
  told_more (Put q u) past h =
      by_test (q == pid)
      (λ e. simp e (put_last (last_of pid (network past)) (packed q u (one_past (last_number (es past)))) (es past) h))
      (λ e. simp e h)

  pub told : (past : List Move) → Told past
  told [] = tt
  told (s ∷ past) = told_more s past (told past)

  -- ---- a clock reference alone is no payload packet

  pub last_of-clock : (k n : ℕ) (o : Option (List ℕ)) (O : List (List ℕ)) → n < 16 → last_of pid (onto O (clock_alone k n o)) ≡ last_of pid O
  last_of-clock k n None O h = refl
  last_of-clock k n (Some c) O h = let e = payload_on-clock pid k n c h in simp e

  come : (past : List (List ℕ)) → has_come pid past ≡ true → is_some (last_of pid past) ≡ true
  come [] h = cc
  come (p ∷ past) h = by_test (payload_on pid p) (λ y. simp y) (λ y. let f = simp y at h in simp y (come past f))

-- ---- the last payload packets

move : (b : Option (List ℕ)) (n n' : ℕ) (st : Place) (ol om om' : Option Last) → n ≡ n' → om ≡ om' → Matched b n st ol om → Matched b n' st ol om'
move b n n' st ol om om' e f h = rw (← e, ← f) h

put_not : {P : Type 0} (st : Place) → behind_put st ≡ Keeping → P
put_not Keeping e = cc
put_not Leaving e = cc
put_not Between e = cc

numbered_of : (b : Option (List ℕ)) (n : ℕ) (st : Place) (l : Last) (om : Option Last) → Matched b n st (Some l) om → Numbered ((number l.packet + n) % 16) (packet_or b om)
numbered_of None n st l None h = tt
numbered_of (Some q) n st l None h = omega (arith, h.1)
numbered_of b n st l (Some m) h = omega (arith, h.0)

from_ends : (b : Option (List ℕ)) (n k : ℕ) (st : Place) (l : Last) (om : Option Last) → Ends ((number l.packet + n) % 16 + k) om → Matched b (n + k) (behind_put st) (Some l) om
from_ends b n k st l None h = absurd h
from_ends b n k st l (Some m) h = (omega (arith, h), λ e. put_not st e)

module _ (pid : ℕ) (b : Option (List ℕ)) (n : ℕ) (st : Place) (O : List (List ℕ)) where
  put_matched : (qs : List (List ℕ)) (ol : Option Last) (le : Option ℕ) → is_some ol ≡ true → LastIs n ol le → Matched b n st ol (last_of pid O) → AllOn pid qs → BeginsAlone qs → CountsFrom (one_past le) qs →
      Matched b (n + length qs) (behind_put st) ol (last_of pid (onto O qs))
  put_matched qs None le s h m a g c = cc
  put_matched [] (Some l) le s h m a g c = absurd g
  put_matched (q ∷ qs) (Some l) le s h m a g c =
      from_ends b n (length (q ∷ qs)) st l (last_of pid (onto O (q ∷ qs))) (put_ends pid q qs ((number l.packet + n) % 16) O a (rw h at c))

  put_steps : (qs : List (List ℕ)) (ol : Option Last) (le : Option ℕ) → is_some ol ≡ true → LastIs n ol le → Matched b n st ol (last_of pid O) → AllOn pid qs → CountsFrom (one_past le) qs →
      Gapless b pid O → Gapless b pid (onto O qs)
  put_steps qs None le s h m a c g = cc
  put_steps qs (Some l) le s h m a c g = put_gapless pid b qs ((number l.packet + n) % 16) O a (rw h at c) (numbered_of b n st l (last_of pid O) m) g

  put_new : (qs : List (List ℕ)) (ol : Option Last) (le : Option ℕ) → is_some ol ≡ true → LastIs n ol le → Matched b n st ol (last_of pid O) → AllOn pid qs → CountsFrom (one_past le) qs →
      AllOriginal pid O qs
  put_new qs None le s h m a c = cc
  put_new qs (Some l) le s h m a c = put_originals pid b qs ((number l.packet + n) % 16) O a (rw h at c) (numbered_of b n st l (last_of pid O) m)

module _ (packed : Packing) (pid : ℕ) (b : Option (List ℕ)) where
  abbrev pub Here : List Move → Type 0
  Here past = Matched b (moved (es packed pid past)) (place pid past) (last_of pid (network past)) (last_of pid (out_back packed past))

  next_of : (p : List ℕ) (past : List (List ℕ)) → IsNext p (nearest b pid past) → IsNext p (packet_or b (last_of pid past))
  next_of p past h = rw (← nearest_is_last b pid past) h

  same_of : (p : List ℕ) (past : List (List ℕ)) → IsSame p (nearest b pid past) → IsSame p (packet_or b (last_of pid past))
  same_of p past h = rw (← nearest_is_last b pid past) h

  -- in the output a kept packet repeats where it did
  pub kept_repeats : (p : List ℕ) (past : List Move) → KeepsUnitsWhole pid (Keep p) past → Here past → payload_on pid p ≡ true → repeats pid p (network past) ≡ true →
      repeats pid (renumbered (moved (es packed pid past)) p) (out_back packed past) ≡ true
  kept_repeats p past w h y r =
      let g : begins pid p (network past) ≡ false = simp (y, r) in
      walk_is_last pid (renumbered (moved (es packed pid past)) p) (out_back packed past)
      ∙ repeats_kept b (moved (es packed pid past)) (place pid past) p _ _ h (w y g) (sym (walk_is_last pid p (network past)) ∙ r)

  pub kept_new : (p : List ℕ) (past : List Move) → InStep b pid p (network past) → Here past → payload_on pid p ≡ true → repeats pid p (network past) ≡ false →
      repeats pid (renumbered (moved (es packed pid past)) p) (out_back packed past) ≡ false
  kept_new p past k h y r =
      walk_is_last pid (renumbered (moved (es packed pid past)) p) (out_back packed past)
      ∙ next_kept b (moved (es packed pid past)) (place pid past) p _ _ h (next_of p (network past) (k.next (simp (y, r))))

  here_keep : (p : List ℕ) (past : List Move) → KeepsUnitsWhole pid (Keep p) past → InStep b pid p (network past) → Here past → Here (Keep p ∷ past)
  here_keep p past w k h =
      by_test (payload_on pid p)
      (λ y. let o = payload_on-on pid p y in let e = kept_on packed pid p past o in by_test (repeats pid p (network past))
      (λ r. let kept = kept_repeats p past w h y r in simp (e, y, r, o, payload_on-renumbered) (number-renumbered _ p, λ _. (refl, kept)))
      (λ r. let kept = kept_new p past k h y r in simp (e, y, r, o, payload_on-renumbered) (number-renumbered _ p, λ _. (refl, kept))))
      (λ y. by_test (on pid p)
      (λ o. simp (y, o, payload_on-kept) h)
      (λ o. simp (y, o, payload_on-kept) h))

  here_leave : (p : List ℕ) (past : List Move) → InStep b pid p (network past) → Here past → Here (Leave p ∷ past)
  here_leave p past k h =
      let E = es packed pid past in
      let c = last_of-clock packed pid (pid_of p) (number_out p (counter_steps packed (pid_of p) (Leave p ∷ past))) (pcr p) (out_back packed past) (below_16 _) in
      move b _ _ (place pid (Leave p ∷ past)) (last_of pid (network (Leave p ∷ past))) (last_of pid (out_back packed past)) _ refl (sym c) (
      by_test (payload_on pid p)
      (λ y. by_test (repeats pid p (network past))
      (λ r. simp (y, r) (repeat_left (moved E) (place pid past) p b true _ _ h (sym (walk_is_last pid p (network past)) ∙ r)))
      (λ r. simp (y, r) (move b _ _ Leaving (Some (record { packet = p; is_repeat = false })) (last_of pid (out_back packed past)) _ (sym (moved-dropped p E)) refl (next_left (moved E) (place pid past) p b false _ _ h (next_of p (network past) (k.next (simp (y, r))))))))
      (λ y. simp y h)
      )

  abbrev put_here : SliceUnit → List Move → List (List ℕ)
  put_here u past = packed pid u (one_past (last_number (es packed pid past)))

  here_put_same : (u : SliceUnit) (past : List Move) → Sound packed (Put pid u) → has_come pid (network past) ≡ true → Here past → Here (Put pid u ∷ past)
  here_put_same u past s f h =
      let E = es packed pid past in
      let qs = put_here u past in
      let k = s (one_past (last_number E)) (one_below (last_number E)) in
      let t = test-same pid in
      simp t (move b _ _ (behind_put (place pid past)) (last_of pid (network past)) (last_of pid (onto (out_back packed past) qs)) _ (sym (moved-put qs E)) refl
      (put_matched pid b (moved E) (place pid past) (out_back packed past) qs (last_of pid (network past)) (last_number E) (come packed pid (network past) f) (told packed pid past) h k.on_pid k.starts k.counted))

  not_on : (q : ℕ) (qs : List (List ℕ)) (O : List (List ℕ)) → (q == pid) ≡ false → AllOn q qs → last_of pid (onto O qs) ≡ last_of pid O
  not_on q [] O e a = refl
  not_on q (p ∷ qs) O e a = let n = other_pid q pid p e a.0 in not_on q qs (p ∷ O) e a.1 ∙ simp n

  here_put : (q : ℕ) (u : SliceUnit) (past : List Move) → Sound packed (Put q u) → HasComeBefore pid (Put q u) past → Here past → Here (Put q u ∷ past)
  here_put q u past s f h =
      by_test (q == pid)
      (λ e. let i = eqb-true q pid e in rw i (here_put_same u past (rw i at s) (f e) h))
      (λ e.
      let k = s (one_past (last_number (es packed q past))) (one_below (last_number (es packed q past))) in
      let n = not_on q (packed q u (one_past (last_number (es packed q past)))) (out_back packed past) e k.on_pid in
      move b _ _ (place pid (Put q u ∷ past)) (last_of pid (network past)) (last_of pid (out_back packed past)) _ refl (sym n) (simp e h))

  -- ---- all of it

  pub here : (past : List Move) → AlongMoves (λ (s : Move) (before : List Move). Sound packed s) past → AlongMoves (KeepsUnitsWhole pid) past → AlongMoves (HasComeBefore pid) past → Gapless b pid (network past) → Here past
  here [] s w f g = refl
  here (Keep p ∷ past) s w f g = here_keep p past w.0 g.0 (here past s.1 w.1 f.1 g.1)
  here (Leave p ∷ past) s w f g = here_leave p past g.0 (here past s.1 w.1 f.1 g.1)
  here (Put q u ∷ past) s w f g = here_put q u past s.0 f.0 (here past s.1 w.1 f.1 g)

  step_keep : (p : List ℕ) (past : List Move) → KeepsUnitsWhole pid (Keep p) past → InStep b pid p (network past) → Here past → InStep b pid (kept_packet packed p past) (out_back packed past)
  step_keep p past w k h =
      let n = moved (es packed pid past) in
      let O = out_back packed past in
      by_test (on pid p)
      (λ o. let e = kept_on packed pid p past o in rw e (by_test (payload_on pid p)
      (λ y. by_test (repeats pid p (network past))
      (λ r. let kept = kept_repeats p past w h y r in
      record { next = λ z. let f = simp (payload_on-renumbered, y, kept) at z in cc; same = λ _ z. let f = simp (payload_on-renumbered, y) at z in cc })
      (λ r. record {
        next = λ _. rw (nearest_is_last b pid O) (next_moved n (place pid past) p b _ _ h (next_of p (network past) (k.next (simp (y, r)))));
        same = λ _ z. let f = simp (payload_on-renumbered, y) at z in cc;
      }))
      (λ y. record {
        next = λ z. let f = simp (payload_on-renumbered, y) at z in cc;
        same = λ _ _. rw (nearest_is_last b pid O) (same_moved n (place pid past) p b (renumbered n p) _ _ h (number-renumbered n p) (same_of p (network past) (k.same o y)));
      })))
      (λ o. let c = on-kept packed pid p past ∙ o in record {
        next = λ z. by_test (payload_on pid (kept_packet packed p past)) (λ y. let f = payload_on-on pid (kept_packet packed p past) y in cc) (λ y. let f = simp y at z in cc);
        same = λ z. cc;
      })

  -- a clock reference alone
  clock_number : (p : List ℕ) (past : List Move) → InStep b pid p (network past) → Here past → on pid p ≡ true → (q : List ℕ) → number q ≡ number_out p (es packed pid (Leave p ∷ past)) → IsSame q (packet_or b (last_of pid (out_back packed past)))
  clock_number p past k h o q e =
      let E = es packed pid past in
      by_test (payload_on pid p)
      (λ y. by_test (repeats pid p (network past))
      (λ r. let c = simp (y, r) at e in
      same_moved (moved E) (place pid past) p b q _ _ h c (repeats_same p b _ (sym (walk_is_last pid p (network past)) ∙ r)))
      (λ r. let c = simp (y, r) at e in
      left_moved (moved E) (place pid past) p b q _ _ h (c ∙ ap (λ m. (number p + m) % 16) (moved-dropped p E)) (next_of p (network past) (k.next (simp (y, r))))))
      (λ y. let c = simp y at e in same_moved (moved E) (place pid past) p b q _ _ h c (same_of p (network past) (k.same o y)))

  step_clock : (p : List ℕ) (past : List Move) (o : Option (List ℕ)) → pcr p ≡ o → pid_of p < 8192 → InStep b pid p (network past) → Here past → Gapless b pid (out_back packed past)
      → Gapless b pid (onto (out_back packed past) (clock_alone (pid_of p) (number_out p (counter_steps packed (pid_of p) (Leave p ∷ past))) o))
  step_clock p past None e l k h g = g
  step_clock p past (Some c) e l k h g =
      let O = out_back packed past in
      let n = number_out p (counter_steps packed (pid_of p) (Leave p ∷ past)) in
      let q = clock_packet (pid_of p) n c in
      let y = payload_on-clock pid (pid_of p) n c (below_16 _) in (
        record {
          next = λ z. let f = simp y at z in cc;
          same = λ o _.
              let i : (pid_of p == pid) ≡ true = sym (on-clock pid (pid_of p) n c l) ∙ o in
              let j = on-same p pid (pcr-error p c e) ∙ i in
              rw (nearest_is_last b pid O) (clock_number p past k h j q (number-clock (pid_of p) n c (below_16 _) ∙ ap (λ m. number_out p (counter_steps packed m (Leave p ∷ past))) (eqb-true (pid_of p) pid i)));
        },
        g,
      )

  step_put_same : (u : SliceUnit) (past : List Move) → Sound packed (Put pid u) → has_come pid (network past) ≡ true → Here past → Gapless b pid (out_back packed past) → Gapless b pid (onto (out_back packed past) (put_here u past))
  step_put_same u past s f h g =
      let E = es packed pid past in
      let k = s (one_past (last_number E)) (one_below (last_number E)) in
      put_steps pid b (moved E) (place pid past) (out_back packed past) (put_here u past) (last_of pid (network past)) (last_number E) (come packed pid (network past) f) (told packed pid past) h k.on_pid k.counted g

  pub put_originals_here : (u : SliceUnit) (past : List Move) → Sound packed (Put pid u) → has_come pid (network past) ≡ true → Here past → AllOriginal pid (out_back packed past) (put_here u past)
  put_originals_here u past s f h =
      let E = es packed pid past in
      let k = s (one_past (last_number E)) (one_below (last_number E)) in
      put_new pid b (moved E) (place pid past) (out_back packed past) (put_here u past) (last_of pid (network past)) (last_number E) (come packed pid (network past) f) (told packed pid past) h k.on_pid k.counted

  -- packets of another PID
  not_steps : (q : ℕ) (qs : List (List ℕ)) (O : List (List ℕ)) → (q == pid) ≡ false → AllOn q qs → Gapless b pid O → Gapless b pid (onto O qs)
  not_steps q [] O e a g = g
  not_steps q (p ∷ qs) O e a g =
      let n = other_pid q pid p e a.0 in
      let m = other_on q pid p e a.0 in
      not_steps q qs (p ∷ O) e a.1 (record { next = λ z. let f = simp n at z in cc; same = λ z _. cc }, g)

  gapless_out : (past : List Move) → AlongMoves (λ (s : Move) (before : List Move). Sound packed s) past → AlongMoves (KeepsUnitsWhole pid) past → AlongMoves (HasComeBefore pid) past → Gapless b pid (network past) → Gapless b pid (out_back packed past)
  gapless_out [] s w f g = tt
  gapless_out (Keep p ∷ past) s w f g = (step_keep p past w.0 g.0 (here past s.1 w.1 f.1 g.1), gapless_out past s.1 w.1 f.1 g.1)
  gapless_out (Leave p ∷ past) s w f g = step_clock p past (pcr p) refl s.0 g.0 (here past s.1 w.1 f.1 g.1) (gapless_out past s.1 w.1 f.1 g.1)
  gapless_out (Put q u ∷ past) s w f g =
      let h = here past s.1 w.1 f.1 g in
      let i = gapless_out past s.1 w.1 f.1 g in
      by_test (q == pid)
      (λ e. let j = eqb-true q pid e in rw j (step_put_same u past (rw j at s.0) (f.0 e) h i))
      (λ e. let k = s.0 (one_past (last_number (es packed q past))) (one_below (last_number (es packed q past))) in
      not_steps q (packed q u (one_past (last_number (es packed q past)))) (out_back packed past) e k.on_pid i)

pub output_stays_gapless : OutputStaysGapless
output_stays_gapless packed pid b moves r f k =
    let g = gapless_glue b pid [] (network moves) tt k in
    let h = gapless_out packed pid b (reverse moves) r.sound r.whole f (rw (network_onto [] moves) g) in
    (gapless_back b pid [] (output packed moves) (rw (← out_onto packed [] moves) h)).1
